use Rattle.std.proofs.Common.{rules}
use Rattle.queue_steps.proofs.model.Reply.fill.Goals as goal

pub returns-in-Pop-Err-None : goal.returns-in-Pop-Err-None
returns-in-Pop-Err-None g c = search rules
