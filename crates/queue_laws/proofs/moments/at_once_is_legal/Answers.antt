use Rattle.queue_laws.proofs.Moment.Answering.{at_once_is_legal}
use Rattle.queue_laws.proofs.moments.at_once_is_legal.Goals as goal

pub returns : goal.returns
returns g c = at_once_is_legal
