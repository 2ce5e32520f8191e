use Rattle.std.proofs.Common.{rules}
use Rattle.queue_steps.proofs.steps.slot.each.claim_to_pop.Goals as goal

pub returns : goal.returns
returns g c = search rules
