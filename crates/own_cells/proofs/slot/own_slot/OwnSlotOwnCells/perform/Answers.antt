use Rattle.std.proofs.Common.{rules}
use Rattle.own_cells.proofs.slot.own_slot.OwnSlotOwnCells.perform.Goals as goal

pub returns-in-Or-Lock-default : goal.returns-in-Or-Lock-default
returns-in-Or-Lock-default g c = search rules
