use Rattle.std.proofs.Common.{rules}
use Rattle.queue_steps.proofs.steps.ring.each.pushing.after_displacing.Goals as goal

pub returns-then-head-cap : goal.returns-then-head-cap
returns-then-head-cap g c = search rules
