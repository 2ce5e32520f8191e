use Rattle.law_channel.proofs.Runs.{queue_has_one_history}
use Rattle.law_channel.proofs.queue_has_one_history.Goals as goal

pub returns : goal.returns
returns g c = queue_has_one_history
