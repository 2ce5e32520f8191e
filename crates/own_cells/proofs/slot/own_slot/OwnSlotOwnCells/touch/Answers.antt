use Rattle.std.proofs.Common.{rules}
use Rattle.own_cells.proofs.slot.own_slot.OwnSlotOwnCells.touch.Goals as goal

pub returns-in-Put : goal.returns-in-Put
returns-in-Put g c = search rules
