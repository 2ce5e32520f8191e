use Rattle.std.proofs.Common.{rules}
use Rattle.own_cells.proofs.slot.own_slot.OwnSlot.new.Goals as goal

pub returns : goal.returns
returns g c = search rules
