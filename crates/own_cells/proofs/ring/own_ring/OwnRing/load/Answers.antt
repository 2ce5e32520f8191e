use Rattle.std.proofs.Common.{rules}
use Rattle.own_cells.proofs.ring.own_ring.OwnRing.load.Goals as goal

pub returns-in-Head : goal.returns-in-Head
returns-in-Head g c = search rules
