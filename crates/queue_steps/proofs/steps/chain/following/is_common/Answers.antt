use Rattle.std.proofs.Common.{rules, tests}
use Rattle.queue_steps.proofs.steps.chain.following.is_common.Goals as goal

pub returns-then-state-ne0 : goal.returns-then-state-ne0
returns-then-state-ne0 g c = search (rules, tests)

pub returns-else-state-ne0 : goal.returns-else-state-ne0
returns-else-state-ne0 g c = search rules
