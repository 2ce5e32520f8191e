-- A chain of blocks by the numbers of its items: what each part of it is for, whose it is just now, and the state of the queue that it stands for.
use Rattle.std.proofs.Common.{ℕ, ◌+◌, ◌-◌, ◌*◌, ◌/◌, ◌<◌, ◌≤◌, ◌≡◌, ◌≢◌, ◌⊎◌, Bool, true, false, Option, Some, None, List, length, slice_get}
use Rattle.queue_laws.specs.Common.Vocabulary.{LIMIT, BLOCK_SLOTS}
use Rattle.queue_steps.specs.State.{State}

-- what became of the place of an item: free; claimed by this party's push, which is still to write it; written
pub data Writer (A : Type 0) : Type 0 where
  Free : Writer A
  Writing : ℕ → A → Writer A
  Wrote : A → Writer A

-- what became of the reading of an item: nobody claimed it; this party's pop did, and is still to read it; it is read
pub data Reader : Type 0 where
  Unread : Reader
  Reading : ℕ → Reader
  Done : Reader

-- who moves the tail over a block's end: nobody; this party, before the next block is laid; this party, after that
pub data Mover : Type 0 where
  Rests : Mover
  Laying : ℕ → Mover
  Opening : ℕ → Mover

-- who moves the head over a block's end: nobody; this party, before the next block is shown to the poppers; this party, after that
pub data Passer : Type 0 where
  Stands : Passer
  Passing : ℕ → Passer
  Entering : ℕ → Passer

-- whether a block is linked to the next one: there is none; this party is still to link it; it is
pub data LinkState : Type 0 where
  Unlinked : LinkState
  Linking : ℕ → LinkState
  Linked : LinkState

-- whether the poppers see the first block: not yet; this party is to show it; they do
pub data Shown : Type 0 where
  Hidden : Shown
  Showing : ℕ → Shown
  Seen : Shown

-- the walk over a passed block: not begun; this party is at this slot; it waits for the reader of this slot; the block was given up
pub data Walk : Type 0 where
  Before : Walk
  Walker : ℕ → ℕ → Walk
  Waits : ℕ → Walk
  GivenUp : Walk

-- what a block's name is for: none has it; this party's spare; the chain's block of this number; given back
pub data Use : Type 0 where
  Unused : Use
  Spare : ℕ → Use
  Chained : ℕ → Use
  Lost : Use

-- How many items left and were accepted, what each place and block is for, and which block the poppers see. `known` is the head's bit
pub record Chain (A : Type 0) : Type 0 where
  pub head : ℕ
  pub tail : ℕ
  pub closed : Bool
  pub items : List A
  pub writers : ℕ → Writer A
  pub readers : ℕ → Reader
  pub mover : Mover
  pub passer : Passer
  pub blocks : ℕ
  pub names : ℕ → ℕ
  pub uses : ℕ → Use
  pub links : ℕ → LinkState
  pub shown : Shown
  pub front : ℕ
  pub known : Bool
  pub walks : ℕ → Walk

-- the state of the queue that the chain stands for
abbrev pub queue_of : {A : Type 0} → Chain A → State A
queue_of c = record { items = c.items; cap = None; closed = c.closed; coming = None; accepted = c.tail }

-- the item, once it is claimed
abbrev pub value : {A : Type 0} → Writer A → Option A
value Free = None
value (Writing who v) = Some v
value (Wrote v) = Some v

-- what is so of the item n. The item n is at n - head of the list
abbrev pub ItemOk : {A : Type 0} → ℕ → ℕ → List A → ℕ → Writer A → Reader → Type 0
ItemOk head tail items n Free Unread = tail ≤ n
ItemOk head tail items n (Writing who v) Unread = (head ≤ n) × (n < tail) × (slice_get items (n - head) ≡ Some v)
ItemOk head tail items n (Wrote v) Unread = (head ≤ n) × (n < tail) × (slice_get items (n - head) ≡ Some v)
ItemOk head tail items n (Writing who v) (Reading p) = n < head
ItemOk head tail items n (Wrote v) (Reading p) = n < head
ItemOk head tail items n (Wrote v) Done = n < head
ItemOk head tail items n _ _ = ⊥

-- how many blocks there are for so many items
abbrev pub BlocksOk : ℕ → ℕ → Mover → Type 0
BlocksOk tail blocks Rests = ((tail ≡ 0) × (blocks ≡ 0)) ⊎ (blocks ≡ tail / BLOCK_SLOTS + 1)
BlocksOk tail blocks (Laying who) = (0 < blocks) × (blocks * BLOCK_SLOTS ≡ tail)
BlocksOk tail blocks (Opening who) = (1 < blocks) × (blocks * BLOCK_SLOTS ≡ tail + BLOCK_SLOTS)

abbrev pub LinkOk : ℕ → ℕ → LinkState → Type 0
LinkOk blocks b Unlinked = blocks ≤ b + 1
LinkOk blocks b (Linking who) = b + 1 < blocks
LinkOk blocks b Linked = b + 1 < blocks

-- which block the poppers see
abbrev pub FrontOk : ℕ → ℕ → Passer → Type 0
FrontOk head front Stands = front ≡ head / BLOCK_SLOTS
FrontOk head front (Passing who) = head ≡ front * BLOCK_SLOTS + BLOCK_SLOTS
FrontOk head front (Entering who) = (head ≡ front * BLOCK_SLOTS) × (0 < front)

abbrev pub ShownOk : ℕ → ℕ → ℕ → Bool → Passer → Shown → Type 0
ShownOk blocks head front known passer Hidden = (blocks ≡ 0) × (head ≡ 0) × (front ≡ 0) × (known ≡ false) × (passer ≡ Stands)
ShownOk blocks head front known passer (Showing who) = (0 < blocks) × (head ≡ 0) × (front ≡ 0) × (known ≡ false) × (passer ≡ Stands)
ShownOk blocks head front known passer Seen = front < blocks

-- the item of a slot of a block
abbrev pub item_at : ℕ → ℕ → ℕ
item_at b slot = b * BLOCK_SLOTS + slot

-- the slot that is read last before a block is passed: the last one
abbrev pub LAST : ℕ
LAST = BLOCK_SLOTS - 1

-- the slots before this one are read, and so is the last
abbrev pub IsWalked : (ℕ → Reader) → ℕ → ℕ → Type 0
IsWalked readers b slot = (readers (item_at b LAST) ≡ Done) × ((j : ℕ) → j < slot → readers (item_at b j) ≡ Done)

abbrev pub WalkOk : (ℕ → Reader) → ℕ → Walk → Type 0
WalkOk readers b Before = readers (item_at b LAST) ≢ Done
WalkOk readers b (Walker who slot) = (slot < LAST) × IsWalked readers b slot
WalkOk readers b (Waits slot) = (slot < LAST) × IsWalked readers b slot × (readers (item_at b slot) ≢ Done)
WalkOk readers b GivenUp = IsWalked readers b LAST

-- what is so of a chain after each step
pub record ChainOk {A : Type 0} (c : Chain A) : Type 0 where
  pub count : c.head + length c.items ≡ c.tail
  pub most : c.tail ≤ LIMIT
  pub item : (n : ℕ) → ItemOk c.head c.tail c.items n (c.writers n) (c.readers n)
  pub laid : BlocksOk c.tail c.blocks c.mover
  pub link : (b : ℕ) → LinkOk c.blocks b (c.links b)
  pub name : (b : ℕ) → b < c.blocks → c.uses (c.names b) ≡ Chained b
  pub named : (f b : ℕ) → c.uses f ≡ Chained b → (b < c.blocks) × (c.names b ≡ f)
  pub fronted : FrontOk c.head c.front c.passer
  pub seen : ShownOk c.blocks c.head c.front c.known c.passer c.shown
  -- while the tail is moved on, its block is not linked yet, and the poppers are not past it
  pub opens : (who : ℕ) → c.mover ≡ Opening who → c.links (c.blocks - 2) ≡ Linking who
  pub reaches : (who : ℕ) → c.mover ≡ Opening who → c.front + 1 < c.blocks
  pub knows : c.known ≡ true → c.passer ≡ Stands → c.head / BLOCK_SLOTS * BLOCK_SLOTS + BLOCK_SLOTS ≤ c.tail
  pub walk : (b : ℕ) → WalkOk c.readers b (c.walks b)

-- the parts of a chain that a party may hold
pub data Part : Type 0 where
  Write : ℕ → Part
  Read : ℕ → Part
  Tail : Part
  Head : Part
  Next : ℕ → Part
  First : Part
  Passed : ℕ → Part

abbrev pub writer_of : {A : Type 0} → Writer A → Option ℕ
writer_of (Writing who v) = Some who
writer_of _ = None

abbrev pub reader_of : Reader → Option ℕ
reader_of (Reading who) = Some who
reader_of _ = None

abbrev pub mover_of : Mover → Option ℕ
mover_of Rests = None
mover_of (Laying who) = Some who
mover_of (Opening who) = Some who

abbrev pub passer_of : Passer → Option ℕ
passer_of Stands = None
passer_of (Passing who) = Some who
passer_of (Entering who) = Some who

abbrev pub linker_of : LinkState → Option ℕ
linker_of (Linking who) = Some who
linker_of _ = None

abbrev pub shower_of : Shown → Option ℕ
shower_of (Showing who) = Some who
shower_of _ = None

abbrev pub walker_of : Walk → Option ℕ
walker_of (Walker who slot) = Some who
walker_of _ = None

-- whose part it is just now
abbrev pub owner : {A : Type 0} → Chain A → Part → Option ℕ
owner c (Write n) = writer_of (c.writers n)
owner c (Read n) = reader_of (c.readers n)
owner c Tail = mover_of c.mover
owner c Head = passer_of c.passer
owner c (Next b) = linker_of (c.links b)
owner c First = shower_of c.shown
owner c (Passed b) = walker_of (c.walks b)

-- a party's parts are among these
abbrev pub HoldsOnly : {A : Type 0} → Chain A → ℕ → (Part → Type 0) → Type 0
HoldsOnly c who P = (x : Part) → owner c x ≡ Some who → P x

-- no part at all
abbrev pub Nothing : Part → Type 0
Nothing x = ⊥
