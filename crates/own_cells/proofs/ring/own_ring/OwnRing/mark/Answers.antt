use Rattle.std.proofs.Common.{rules}
use Rattle.own_cells.proofs.ring.own_ring.OwnRing.mark.Goals as goal

pub returns : goal.returns
returns g c = search rules
