-- What a call on a chain carries between its steps: positions and words, names of blocks, and what was seen or claimed.
use Rattle.std.proofs.Common.{ℕ, ◌+◌, ◌/◌, ◌*◌, ◌<◌, ◌≤◌, ◌≡◌, ◌⊎◌, Bool, true, false, Option, Some, None, List}
use Rattle.queue_laws.specs.Common.{Vocabulary.LIMIT, Vocabulary.BLOCK_SLOTS, Moments.SeenIn, Moments.IsStarted, Moments.HasItems}
use Rattle.queue_laws.specs.Chain.ChainCells.{Writing, Reading, Rests, Stands, Seen, Spare, Chain, value}
use Rattle.queue_steps.specs.{State.State, Words.tail_of}

-- the position of the item of this number, where no call moves over a block's end
abbrev pub place : ℕ → ℕ
place n = n + n / BLOCK_SLOTS

-- the head's word at the item n, where nobody moves it over a block's end
abbrev pub head_of : ℕ → Bool → ℕ
head_of n more = tail_of (place n) more

-- the tail's word at the item q of an open queue, where nobody moves it over a block's end
abbrev pub open_tail_of : ℕ → ℕ
open_tail_of q = place q * 2

-- the head stands at the item n, or moved on
abbrev pub HeadIs : {A : Type 0} → Chain A → ℕ → Type 0
HeadIs c n = (n < c.head) ⊎ ((c.head ≡ n) × (c.passer ≡ Stands))

-- the tail stands at the item q, or moved on
abbrev pub TailIs : {A : Type 0} → Chain A → ℕ → Type 0
TailIs c q = (q < c.tail) ⊎ ((c.tail ≡ q) × (c.mover ≡ Rests))

-- the name of the block of the item n
abbrev pub IsNamed : {A : Type 0} → Chain A → ℕ → ℕ → Type 0
IsNamed c b name = (b < c.blocks) × (name ≡ c.names b)

-- the pushers' block after a tail at q, or the tail moved on
abbrev pub TailBlockIs : {A : Type 0} → Chain A → ℕ → ℕ → Type 0
TailBlockIs c q name = (q < c.tail) ⊎ IsNamed c (q / BLOCK_SLOTS) name

-- the poppers' block after a head at n, or the head moved on
abbrev pub HeadBlockIs : {A : Type 0} → Chain A → ℕ → ℕ → Type 0
HeadBlockIs c n name = (c.shown ≡ Seen) × ((n < c.head) ⊎ IsNamed c (n / BLOCK_SLOTS) name)

-- the poppers' block that was read, if there was one
abbrev pub HeadBlockRead : {A : Type 0} → Chain A → ℕ → Option ℕ → Type 0
HeadBlockRead c n None = Unit {0}
HeadBlockRead c n (Some name) = HeadBlockIs c n name

-- the block of the item n is not the last
abbrev pub IsMore : {A : Type 0} → Chain A → ℕ → Bool → Type 0
IsMore c n more = more ≡ true → (c.shown ≡ Seen) × (n / BLOCK_SLOTS * BLOCK_SLOTS + BLOCK_SLOTS ≤ c.tail)

-- the spare is the party's, and there is a block
abbrev pub HasSpare : {A : Type 0} → Chain A → ℕ → Option ℕ → Type 0
HasSpare c who None = Unit {0}
HasSpare c who (Some f) = (c.uses f ≡ Spare who) × (0 < c.blocks)

-- a moment at which the queue was open and had accepted q items
abbrev pub WasOpenAt : {A : Type 0} → ℕ → State A → Type 0
WasOpenAt q m = (m.cap ≡ None) × (m.closed ≡ false) × (m.accepted ≡ q)

-- after the head was read at h: the list was seen with an item, or nothing was accepted since
abbrev pub SawEmpty : {A : Type 0} → ℕ → Chain A → List (State A) → Type 0
SawEmpty h c ms = IsStarted ms × (h ≤ c.head) × (SeenIn ms HasItems ⊎ (c.tail ≡ h))

-- a push read the tail at q of an open queue below its limit
pub record SawTail {A : Type 0} (c : Chain A) (q : ℕ) (ms : List (State A)) : Type 0 where
  pub below : q < LIMIT
  pub is : TailIs c q
  pub moment : SeenIn ms (WasOpenAt q)

-- a push claimed the item n, which goes into this block
pub record Claimed {A : Type 0} (c : Chain A) (who n : ℕ) (v : A) (name : ℕ) : Type 0 where
  pub mine : c.writers n ≡ Writing who v
  pub named : IsNamed c (n / BLOCK_SLOTS) name

-- a pop claimed the item n, which is x, of this block
pub record Got {A : Type 0} (c : Chain A) (who n : ℕ) (x : A) (name : ℕ) : Type 0 where
  pub mine : c.readers n ≡ Reading who
  pub item : value (c.writers n) ≡ Some x
  pub named : IsNamed c (n / BLOCK_SLOTS) name
