use Rattle.std.proofs.Common.{rules}
use Rattle.queue_steps.proofs.steps.ring.each.looking.after_count.Goals as goal

pub returns-then-again-tail : goal.returns-then-again-tail
returns-then-again-tail g c = search rules
