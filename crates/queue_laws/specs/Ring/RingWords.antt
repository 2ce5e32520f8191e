-- How words and slots stand for a ring.
use Rattle.std.proofs.Common.{ℕ, ◌<◌, ◌≡◌, Option, Some, None, length, get_or}
use Rattle.queue_steps.specs.Words.{tail_of, stamp_free, stamp_filled}
use Rattle.queue_laws.specs.Ring.{RingShared.Shared, RingCells.Cell, RingCells.Free, RingCells.Written, RingCells.Full, RingCells.Read, RingCells.Coming, RingCells.Swapped, RingCells.Ring}

-- the stamp of a slot
abbrev pub stamp_in : {A : Type 0} → Cell A → ℕ
stamp_in (Free p) = stamp_free p
stamp_in (Written p who v) = stamp_free p
stamp_in (Full p x) = stamp_filled p
stamp_in (Read p who x) = stamp_filled p
stamp_in (Coming p who old v) = stamp_filled p
stamp_in (Swapped p who old v) = stamp_filled p

-- what lies in a slot
abbrev pub item_in : {A : Type 0} → Cell A → Option A
item_in (Free p) = None
item_in (Written p who v) = None
item_in (Full p x) = Some x
item_in (Read p who x) = Some x
item_in (Coming p who old v) = Some old
item_in (Swapped p who old v) = Some old

-- the words and slots are those of the ring
pub record Codes {A : Type 0} (cap : ℕ) (r : Ring A) (s : Shared A) : Type 0 where
  pub head : s.head ≡ r.head
  pub tail : s.tail ≡ tail_of r.tail r.closed
  pub stamped : length s.stamps ≡ cap
  pub slotted : length s.slots ≡ cap
  pub stamp : (i : ℕ) → i < cap → get_or s.stamps i 0 ≡ stamp_in (r.cells i)
  pub slot : (i : ℕ) → i < cap → get_or s.slots i None ≡ item_in (r.cells i)
