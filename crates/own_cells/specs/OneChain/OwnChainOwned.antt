-- The queue that a chain of blocks holds. The item of number n, counted from the first that was ever accepted, is in the block n / BLOCK_SLOTS at the slot n % BLOCK_SLOTS.
use Rattle.std.specs.Prelude.{◌≡◌, ◌⊎◌, ℕ, zero, suc, ◌+◌, ◌-◌, ◌*◌, ◌/◌, ◌%◌, ◌<◌, ◌≤◌, bit_or, List, [], length, Option, Some, None}
use Rattle.queue_steps.specs.{declared.sizes.TheConstants.LIMIT, declared.sizes.TheConstants.BLOCK_SLOTS, declared.steps.chain.TheConstants.WRITE, declared.steps.chain.TheConstants.READ, State.State, Sequential.Owned, Words.position_of, Words.is_shut, ChainWords.offset_of, ChainWords.items_before}
use Rattle.own_cells.specs.{declared.chain.own_chain.Name.Name, OneRing.RingOwned.put_in, OneChain.OwnChainCells.Piece, OneChain.OwnChainCells.OwnChain, OneChain.OwnChainCells.piece_at, OneChain.OwnChainCells.state_in, OneChain.OwnChainCells.item_in}

-- how many items were taken, and how many were accepted
abbrev pub taken : {T : Type 0} → OwnChain T → ℕ
taken r = items_before (position_of r.head)

abbrev pub accepted : {T : Type 0} → OwnChain T → ℕ
accepted r = items_before (position_of r.tail)

-- the state and the content of the slot of the item n, where the list begins with the block of the number `base`
abbrev pub cell_of : {T : Type 0} → List (Piece T) → ℕ → ℕ → ℕ × Option T
cell_of pieces base n = (state_in (piece_at pieces (n / BLOCK_SLOTS - base)) (n % BLOCK_SLOTS), item_in (piece_at pieces (n / BLOCK_SLOTS - base)) (n % BLOCK_SLOTS))

-- the items of k slots, from that of the item n on
abbrev pub items_from : {T : Type 0} → List (Piece T) → ℕ → ℕ → ℕ → List T
items_from pieces base n zero = []
items_from pieces base n (suc k) = put_in (cell_of pieces base n).1 (items_from pieces base (n + 1) k)

-- the block of the front is the oldest
abbrev pub own_chain_queue : {T : Type 0} → OwnChain T → State T
own_chain_queue r = record { items = items_from r.pieces (taken r / BLOCK_SLOTS) (taken r) (accepted r - taken r); cap = None; closed = is_shut r.tail; coming = None; accepted = accepted r }

abbrev pub own_chain_owned : {T : Type 0} → OwnChain T → Owned T
own_chain_owned r = record { queue = own_chain_queue r; blocks = length r.pieces }

-- the slots of the items before h are read, those from h on before t hold items, and the others are free
pub record HoldsItems {T : Type 0} (pieces : List (Piece T)) (base h t : ℕ) : Type 0 where
  pub read : (n : ℕ) → base * BLOCK_SLOTS ≤ n → n < h → cell_of pieces base n ≡ (bit_or WRITE READ, None)
  pub written : (n : ℕ) → h ≤ n → n < t → (v : T) × (cell_of pieces base n ≡ (WRITE, Some v))
  pub free : (n : ℕ) → t ≤ n → n < (base + length pieces) * BLOCK_SLOTS → cell_of pieces base n ≡ (0, None)

-- the blocks are numbered, and each is linked to the one behind it
pub record Linked {T : Type 0} (first : ℕ) (pieces : List (Piece T)) : Type 0 where
  pub states : (i : ℕ) → i < length pieces → length (piece_at pieces i).states ≡ BLOCK_SLOTS
  pub slots : (i : ℕ) → i < length pieces → length (piece_at pieces i).slots ≡ BLOCK_SLOTS
  pub number : (i : ℕ) → i < length pieces → (piece_at pieces i).name.number ≡ first + i
  pub next : (i : ℕ) → i + 1 < length pieces → (piece_at pieces i).next ≡ Some (piece_at pieces (i + 1)).name
  pub end : (i : ℕ) → i + 1 ≡ length pieces → (piece_at pieces i).next ≡ None

-- no block was laid, and t items were accepted: none
pub record IsBare {T : Type 0} (first : ℕ) (pieces : List (Piece T)) (head_block tail_block : Option (Name T)) (t : ℕ) : Type 0 where
  pub start : first ≡ 0
  pub none : pieces ≡ []
  pub unused : t ≡ 0
  pub front : head_block ≡ None
  pub back : tail_block ≡ None

-- of t accepted items h were taken, and there is a block for each item from that of the front to that of the next one to come
pub record IsLaid {T : Type 0} (first : ℕ) (pieces : List (Piece T)) (head_block tail_block : Option (Name T)) (h t : ℕ) : Type 0 where
  pub count : length pieces + h / BLOCK_SLOTS ≡ t / BLOCK_SLOTS + 1
  pub linked : Linked first pieces
  pub front : head_block ≡ Some (piece_at pieces 0).name
  pub back : (i : ℕ) → i + 1 ≡ length pieces → tail_block ≡ Some (piece_at pieces i).name
  pub holds : HoldsItems pieces (h / BLOCK_SLOTS) h t

-- no call is on its way: neither position stands behind a block's last slot, and the head's bit is set only where the front's block is not the last
pub record IsIdle {T : Type 0} (r : OwnChain T) : Type 0 where
  pub head_rests : offset_of r.head < BLOCK_SLOTS
  pub tail_rests : offset_of r.tail < BLOCK_SLOTS
  pub order : taken r ≤ accepted r
  pub below : accepted r ≤ LIMIT
  pub known : r.head % 2 ≡ 1 → taken r / BLOCK_SLOTS < accepted r / BLOCK_SLOTS
  pub few : r.first + length r.pieces ≤ accepted r / BLOCK_SLOTS + 1
  pub no_spare : r.spare ≡ None
  pub blocks : IsBare r.first r.pieces r.head_block r.tail_block (accepted r) ⊎ IsLaid r.first r.pieces r.head_block r.tail_block (taken r) (accepted r)
