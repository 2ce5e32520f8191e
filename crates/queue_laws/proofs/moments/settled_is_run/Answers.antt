use Rattle.queue_laws.proofs.Moment.Ordering.{settled_is_run}
use Rattle.queue_laws.proofs.moments.settled_is_run.Goals as goal

pub returns : goal.returns
returns g c = settled_is_run
