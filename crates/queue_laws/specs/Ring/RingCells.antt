-- A ring by positions: what each slot is for, whose it is, and the state of the queue that it stands for.
use Rattle.std.proofs.Common.{ℕ, ◌+◌, ◌-◌, ◌%◌, ◌<◌, ◌≤◌, ◌≡◌, Bool, Option, Some, None, List, length, slice_get}
use Rattle.queue_laws.specs.Common.Vocabulary.{LIMIT}
use Rattle.queue_steps.specs.{State.State, Words.IsRing}

-- What a slot is for, by its position: free for it; claimed by a push and not yet stamped; filled; claimed by a pop; its item taken
-- off as the front by a displacing call, whose own item is on its way in; that item arrived and not yet stamped.
pub data Cell (A : Type 0) : Type 0 where
  Free : ℕ → Cell A
  Written : ℕ → ℕ → A → Cell A
  Full : ℕ → A → Cell A
  Read : ℕ → ℕ → A → Cell A
  Coming : ℕ → ℕ → A → A → Cell A
  Swapped : ℕ → ℕ → A → A → Cell A

-- how many items left, how many were accepted, and what each slot is for
pub record Ring (A : Type 0) : Type 0 where
  pub head : ℕ
  pub tail : ℕ
  pub closed : Bool
  pub items : List A
  pub coming : Option A
  pub cells : ℕ → Cell A

-- the state of the queue that the ring stands for
abbrev pub queue_of : {A : Type 0} → ℕ → Ring A → State A
queue_of cap r = record { items = r.items; cap = Some cap; closed = r.closed; coming = r.coming; accepted = r.tail }

-- what is so of the slot i. The item of position p is at p - head
abbrev pub CellOk : {A : Type 0} → ℕ → ℕ → ℕ → List A → Option A → ℕ → Cell A → Type 0
CellOk cap head tail items coming i (Free p) = (p % cap ≡ i) × (tail ≤ p) × (p < head + cap)
CellOk cap head tail items coming i (Written p who v) = (p % cap ≡ i) × (head ≤ p) × (p < tail) × (slice_get items (p - head) ≡ Some v)
CellOk cap head tail items coming i (Full p x) = (p % cap ≡ i) × (head ≤ p) × (p < tail) × (slice_get items (p - head) ≡ Some x)
CellOk cap head tail items coming i (Read p who x) = (p % cap ≡ i) × (p < head) × (tail ≤ p + cap)
CellOk cap head tail items coming i (Coming p who old v) = (p % cap ≡ i) × (p < head) × (p + cap ≡ tail) × (coming ≡ Some v)
CellOk cap head tail items coming i (Swapped p who old v) = (p % cap ≡ i) × (head ≤ p + cap) × (p + cap < tail) × (slice_get items (p + cap - head) ≡ Some v)

-- what is so of a ring of cap slots after each step
pub record RingOk {A : Type 0} (cap : ℕ) (r : Ring A) : Type 0 where
  pub ring : IsRing cap
  pub count : r.head + length r.items ≡ r.tail
  pub room : r.tail ≤ r.head + cap
  pub most : r.tail ≤ LIMIT
  pub cell : (i : ℕ) → i < cap → CellOk cap r.head r.tail r.items r.coming i (r.cells i)
  -- what is coming has its slot
  pub comes : (v : A) → r.coming ≡ Some v → (p who : ℕ) × (old : A) × (p + cap ≡ r.tail) × (r.cells (p % cap) ≡ Coming p who old v)

-- whose slot it is just now
abbrev pub owner : {A : Type 0} → Cell A → Option ℕ
owner (Free p) = None
owner (Written p who v) = Some who
owner (Full p x) = None
owner (Read p who x) = Some who
owner (Coming p who old v) = Some who
owner (Swapped p who old v) = Some who

-- the party holds no slot
abbrev pub HoldsNone : {A : Type 0} → (ℕ → Cell A) → ℕ → Type 0
HoldsNone cells who = (k : ℕ) → owner (cells k) ≡ Some who → ⊥

-- the party holds the slot i, which is for c, and no other
abbrev pub HoldsOne : {A : Type 0} → (ℕ → Cell A) → ℕ → ℕ → Cell A → Type 0
HoldsOne cells who i c = (cells i ≡ c) × ((k : ℕ) → owner (cells k) ≡ Some who → k ≡ i)
