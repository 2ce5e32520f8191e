-- What is left of a chain that nobody shares any more, where calls may have been given up on their way.
use Rattle.std.specs.Prelude.{◌≡◌, ◌≢◌, ◌⊎◌, ℕ, zero, suc, ◌+◌, ◌*◌, ◌<◌, ◌≤◌, ◌==◌, ◌&&◌, ◌||◌, if◌then◌else◌, nat_lt, Bool, true, false, bit_and, List, length, slice_index_or, Option, Some, None}
use mathlib.Core.Option.{some}
use lib.ListN.{get_elem?}
use denote.RawPtr.{null_ptr, InBlock, Testable}
use Rattle.queue_laws.specs.Common.Vocabulary.{LIMIT, BLOCK_SLOTS, WRITE, READ}
use Rattle.mem_blocks.specs.{Web.Block, Web.block, Web.Lives, Web.vacant, Web.full, declared.block.BlockPtr.BlockPtr, declared.sizes.TheConstants.SLOTS}

-- The slot i of a block, for the item n, where so many items were taken and accepted: one that was taken is out of its slot once it is read, one that was not lies in
-- its slot once it is written, and nothing lies where none was accepted
pub record SlotLeft {T : Type 0} (taken accepted n i : ℕ) (x : Block T) : Type 0 where
  pub read : n < taken → bit_and (slice_index_or x.words i 0) READ ≢ 0 → get_elem? x.homes i ≡ some vacant
  pub written : taken ≤ n → bit_and (slice_index_or x.words i 0) WRITE ≢ 0 → (v : T) × (get_elem? x.homes i ≡ some (full v))
  pub free : accepted ≤ n → get_elem? x.homes i ≡ some vacant

-- whether a call that never ended has that slot: the item was taken and is not read, or it was accepted, was not taken, and is not written
abbrev pub is_held : {T : Type 0} → ℕ → ℕ → ℕ → ℕ → Block T → Bool
is_held taken accepted n i x =
    if nat_lt n taken then bit_and (slice_index_or x.words i 0) READ == 0
    else (bit_and (slice_index_or x.words i 0) WRITE == 0) && nat_lt n accepted

-- whether such a call has one of the first k slots of a block, whose first slot is that of the item n
unfoldable pub any_held : {T : Type 0} → ℕ → ℕ → ℕ → ℕ → Block T → Bool
any_held taken accepted n zero x = false
any_held taken accepted n (suc k) x = any_held taken accepted n k x || is_held taken accepted (n + k) k x

-- a block, whose first slot is that of the item n
pub record BlockLeft {T : Type 0} (taken accepted n : ℕ) (x : Block T) : Type 0 where
  pub words : length x.words ≡ SLOTS
  pub homes : length x.homes ≡ SLOTS
  pub slot : (i : ℕ) → i < SLOTS → SlotLeft taken accepted (n + i) i x

-- the block number b of the chain is in the web, and its link leads nowhere or to the next one
pub record StaysLeft {T : Type 0} (taken accepted b : ℕ) (bs : List (Block T)) : Type 0 where
  pub alive : (block bs (b + 2)).alive ≡ true
  pub block_left : BlockLeft taken accepted (b * BLOCK_SLOTS) (block bs (b + 2))
  pub tested : Testable (block bs (b + 2)).next
  pub leads : ((block bs (b + 2)).next ≡ null_ptr) ⊎ ((b + 3 < length bs) × ((block bs (b + 2)).next ≡ (block bs (b + 3)).at))

-- the blocks from this number on, behind the two ends
pub record BlocksLeft {T : Type 0} (taken accepted from : ℕ) (bs : List (Block T)) : Type 0 where
  pub few : length bs * BLOCK_SLOTS ≤ 2 * LIMIT
  pub stays : (b : ℕ) → from ≤ b → b + 2 < length bs → StaysLeft taken accepted b bs

-- two rows of blocks that differ at most in the block k
pub record SameBut {T : Type 0} (k : ℕ) (old new : List (Block T)) : Type 0 where
  pub long : length new ≡ length old
  pub others : (j : ℕ) → j ≢ k → block new j ≡ block old j

-- a block of which at most the slots P changed: those are empty now, where `empty` says so
pub record Emptied {T : Type 0} (P : ℕ → Type 0) (empty : Bool) (old new : Block T) : Type 0 where
  pub at : new.at ≡ old.at
  pub alive : new.alive ≡ old.alive
  pub next : new.next ≡ old.next
  pub words : new.words ≡ old.words
  pub homes : length new.homes ≡ length old.homes
  pub others : (j : ℕ) → ¬ (P j) → get_elem? new.homes j ≡ get_elem? old.homes j
  pub vacated : empty ≡ true → (j : ℕ) → P j → get_elem? new.homes j ≡ some vacant

-- a link that is there leads to the block number b of the chain
abbrev pub IsHere : {T : Type 0} → ℕ → Option (BlockPtr T) → List (Block T) → Type 0
IsHere b None bs = Unit {0}
IsHere b (Some l) bs = InBlock l.ptr × Lives bs (b + 2) l.ptr
