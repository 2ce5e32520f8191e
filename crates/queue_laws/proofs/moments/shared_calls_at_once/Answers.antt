use Rattle.queue_laws.proofs.Moment.Sharing.{shared_calls_at_once}
use Rattle.queue_laws.proofs.moments.shared_calls_at_once.Goals as goal

pub returns : goal.returns
returns g c = shared_calls_at_once
