use Rattle.std.proofs.Common.{rules}
use Rattle.own_cells.proofs.ring.own_ring.OwnRingOwnCells.perform.Goals as goal

pub returns-in-Store-Stamp-default : goal.returns-in-Store-Stamp-default
returns-in-Store-Stamp-default g c = search rules
