use Rattle.std.proofs.Common.{refl}
use Rattle.queue_steps.proofs.steps.chain.each.popping.goes_on.Goals as goal

pub returns : goal.returns
returns c = refl
