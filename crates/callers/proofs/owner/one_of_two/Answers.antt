use Rattle.std.proofs.Common.{rules}
use Rattle.callers.proofs.owner.one_of_two.Goals as goal

pub returns : goal.returns
returns g c = search rules
