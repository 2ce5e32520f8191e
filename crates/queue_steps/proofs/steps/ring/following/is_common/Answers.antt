use Rattle.std.proofs.Common.{rules, tests}
use Rattle.queue_steps.proofs.steps.ring.following.is_common.Goals as goal

pub returns-in-PushStamp-Found : goal.returns-in-PushStamp-Found
returns-in-PushStamp-Found g c = search (rules, tests)
