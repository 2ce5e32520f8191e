use Rattle.queue_laws.proofs.Moment.Answering.{displaces_at_once}
use Rattle.queue_laws.proofs.moments.displaces_at_once.Goals as goal

pub returns : goal.returns
returns g c = displaces_at_once
