use Rattle.std.proofs.Common.{rules, tests}
use Rattle.queue_steps.proofs.steps.chain.each.popping.after_mark.Goals as goal

pub returns-else-state-ne0 : goal.returns-else-state-ne0
returns-else-state-ne0 g c = search (rules, tests)
