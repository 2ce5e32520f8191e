use Rattle.std.proofs.Common.{rules, tests}
use Rattle.queue_steps.proofs.steps.ring.following.next_common.Goals as goal

pub returns-in-PushTail-Found : goal.returns-in-PushTail-Found
returns-in-PushTail-Found g c = search (rules, tests)

pub returns-in-Swapping-Done : goal.returns-in-Swapping-Done
returns-in-Swapping-Done g c = search (rules, tests)
