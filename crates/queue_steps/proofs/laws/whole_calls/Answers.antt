use Rattle.queue_steps.proofs.WholeCalls.{whole_calls}
use Rattle.queue_steps.proofs.laws.whole_calls.Goals as goal

pub returns : goal.returns
returns g c = whole_calls
