use Rattle.std.proofs.Common.{rules}
use Rattle.queue_steps.proofs.steps.ring.each.begin.Goals as goal

pub returns-in-Capacity : goal.returns-in-Capacity
returns-in-Capacity g c = search rules
