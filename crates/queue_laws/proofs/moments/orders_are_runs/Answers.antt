use Rattle.queue_laws.proofs.Moment.Ordering.{orders_are_runs}
use Rattle.queue_laws.proofs.moments.orders_are_runs.Goals as goal

pub returns : goal.returns
returns g c = orders_are_runs
