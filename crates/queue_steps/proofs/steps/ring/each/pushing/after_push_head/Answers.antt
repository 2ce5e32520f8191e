use Rattle.std.proofs.Common.{rules}
use Rattle.queue_steps.proofs.steps.ring.each.pushing.after_push_head.Goals as goal

pub returns-else-head-cap : goal.returns-else-head-cap
returns-else-head-cap g c = search rules
