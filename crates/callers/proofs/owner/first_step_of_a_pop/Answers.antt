use Rattle.std.proofs.Common.{rules}
use Rattle.callers.proofs.owner.first_step_of_a_pop.Goals as goal

pub returns : goal.returns
returns c = search rules
