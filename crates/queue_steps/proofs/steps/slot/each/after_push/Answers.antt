use Rattle.std.proofs.Common.{rules, tests}
use Rattle.queue_steps.proofs.steps.slot.each.after_push.Goals as goal

pub returns-else-is_pushed : goal.returns-else-is_pushed
returns-else-is_pushed g c = search (rules, tests)
