use Rattle.std.proofs.Common.{rules, tests}
use Rattle.queue_steps.proofs.steps.ring.each.popping.after_pop_tail.Goals as goal

pub returns-then-position_of-head : goal.returns-then-position_of-head
returns-then-position_of-head g c = search (rules, tests)

pub returns : goal.returns
returns g c = search rules
