-- The queue that a ring holds.
use Rattle.std.specs.Prelude.{◌-◌, ◌≤◌, Some, None}
use Rattle.queue_steps.specs.{declared.sizes.TheConstants.LIMIT, State.State, Sequential.Owned, Words.IsRing, Words.position_of, Words.is_shut, Words.slot_at, Words.stamp_free, Words.stamp_filled}
use Rattle.own_cells.specs.OneRing.RingCells.{RingState}
use Rattle.std.proofs.Common.{◌≡◌, ℕ, zero, suc, ◌+◌, ◌<◌, List, [], ◌∷◌, length, get_or, Option}

-- what is in the slot of a position
abbrev pub at_position : {T : Type 0} → ℕ → List (Option T) → ℕ → Option T
at_position n slots p = get_or slots (slot_at n p) None

-- of n slots, those of the positions from h on, before t, hold items and are stamped so; the others of the lap are free
pub record HoldsItems {T : Type 0} (n h t : ℕ) (stamps : List ℕ) (slots : List (Option T)) : Type 0 where
  pub some : 0 < n
  pub stamped : length stamps ≡ n
  pub slotted : length slots ≡ n
  pub order : h ≤ t
  pub within : t ≤ h + n
  pub filled : (p : ℕ) → h ≤ p → p < t → (v : T) × (get_or stamps (slot_at n p) 0 ≡ stamp_filled p) × (at_position n slots p ≡ Some v)
  pub free : (p : ℕ) → t ≤ p → p < h + n → (get_or stamps (slot_at n p) 0 ≡ stamp_free p) × (at_position n slots p ≡ None)

abbrev pub put_in : {T : Type 0} → Option T → List T → List T
put_in None xs = xs
put_in (Some x) xs = x ∷ xs

-- the items of k positions from p on
abbrev pub items_of : {T : Type 0} → ℕ → List (Option T) → ℕ → ℕ → List T
items_of n slots p zero = []
items_of n slots p (suc k) = put_in (at_position n slots p) (items_of n slots (p + 1) k)

-- no call is on its way
pub record IsIdle {T : Type 0} (r : RingState T) : Type 0 where
  pub ring : IsRing r.cap
  pub below : position_of r.tail ≤ LIMIT
  pub holds : HoldsItems r.cap r.head (position_of r.tail) r.stamps r.slots

-- the items from the head's position to the tail's. As many items were accepted as the tail's position says
abbrev pub ring_queue : {T : Type 0} → RingState T → State T
ring_queue r = record { items = items_of r.cap r.slots r.head (position_of r.tail - r.head); cap = Some r.cap; closed = is_shut r.tail; coming = None; accepted = position_of r.tail }

abbrev pub ring_owned : {T : Type 0} → RingState T → Owned T
ring_owned r = record { queue = ring_queue r; blocks = 0 }
