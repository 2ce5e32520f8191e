-- What is left to read of a ring.
use Rattle.std.specs.Prelude.{◌≡◌, ℕ, ◌-◌, ◌≤◌, List}
use Rattle.queue_steps.specs.Words.{position_of, slot_at}
use Rattle.own_cells.specs.OneRing.{RingCells.RingState, RingOwned.items_of, RingOwned.IsIdle}

module _ {T : Type 0} (r : RingState T) where
  -- the position of the next item, where so many are left
  abbrev pub next_position : ℕ → ℕ
  next_position left = position_of r.tail - left

  -- the last items of the queue, so many as are left
  abbrev pub items_left : ℕ → List T
  items_left left = items_of r.cap r.slots (next_position left) left

  -- the next item is in this slot
  pub record Reads (slot left : ℕ) : Type 0 where
    pub idle : IsIdle r
    pub within : left ≤ position_of r.tail - r.head
    pub in_slot : slot ≡ slot_at r.cap (next_position left)
