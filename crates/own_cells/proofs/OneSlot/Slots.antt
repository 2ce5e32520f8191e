-- What operations do to the word of a slot.
use Rattle.std.proofs.Common.{◌≡◌, ℕ, refl}
use Rattle.queue_steps.specs.{declared.steps.types.Op.Op, declared.steps.types.Op.Op as op, LookNext.IsLoad}
use Rattle.own_cells.specs.OneSlot.OwnSlotCells.{after_op}

-- a load leaves the word
pub after_op-load : (o : Op Unit) (word : ℕ) → IsLoad o → after_op o word ≡ word
after_op-load (op.Load w) word h = refl
after_op-load _ word h = absurd h
