use Rattle.std.proofs.Common.{rules}
use Rattle.queue_steps.proofs.steps.chain.each.begin.Goals as goal

pub returns-in-Push : goal.returns-in-Push
returns-in-Push g c = search rules
