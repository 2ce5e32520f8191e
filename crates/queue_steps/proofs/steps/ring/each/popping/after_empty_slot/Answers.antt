use Rattle.std.proofs.Common.{rules, tests}
use Rattle.queue_steps.proofs.steps.ring.each.popping.after_empty_slot.Goals as goal

pub returns-else-stamp-head : goal.returns-else-stamp-head
returns-else-stamp-head g c = search (rules, tests)
