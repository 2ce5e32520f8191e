use Rattle.std.proofs.Common.{rules}
use Rattle.queue_steps.proofs.steps.slot.each.next.Goals as goal

pub returns-in-Closing : goal.returns-in-Closing
returns-in-Closing g c = search rules
