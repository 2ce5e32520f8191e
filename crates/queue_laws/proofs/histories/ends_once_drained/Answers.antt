use Rattle.queue_laws.proofs.History.Closing.{ends_once_drained}
use Rattle.queue_laws.proofs.histories.ends_once_drained.Goals as goal

pub returns : goal.returns
returns g c = ends_once_drained
