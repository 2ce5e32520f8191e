-- Between its calls a queue of one slot with one owner is sound.
use Rattle.std.proofs.Common.{◌≤◌, length, Option, Some, None, refl, arith, inl}
use Rattle.queue_steps.specs.Legal.{IsSoundOwned}
use Rattle.own_cells.specs.{OneSlot.OwnSlotCells.items_in, OneSlot.OwnSlotCells.slot_owned, OneSlot.OwnSlotCells.IsIdle, declared.slot.own_slot.OwnSlot.OwnSlot}

one_at_most : {T : Type 0} (item : Option T) → length (items_in item) ≤ 1
one_at_most None = omega arith
one_at_most (Some x) = omega arith

pub slot_sound : {T : Type 0} (s : OwnSlot T) → IsIdle s → IsSoundOwned (slot_owned s)
slot_sound s idle = (record { none_coming = refl; within = (omega arith, one_at_most s.item); counted = inl refl }, inl refl)
