use Rattle.std.proofs.Common.{refl}
use Rattle.own_cells.proofs.OneSlot.Slots.{after_op-load}
use Rattle.own_cells.proofs.slot.own_slot.OwnSlotOwnCells.look.Goals as goal

pub returns : goal.returns
returns g c = rw (after_op-load c.args.op.now c.args.self.now.lock c.requires.load) refl
