use Rattle.std.proofs.Common.{rules}
use Rattle.queue_steps.proofs.steps.ring.each.pushing.fill.Goals as goal

pub returns : goal.returns
returns g c = search rules
