-- What a chain of raw blocks with one owner shows.
use Rattle.std.specs.Prelude.{◌≡◌, ℕ, ◌+◌, ◌-◌, ◌^◌, ◌<◌, ◌≤◌, true, List, [], ◌∷◌, length, drop, replicate, Option, Some, None}
use denote.RawPtr.{Ptr, block_ptr, null_ptr, InBlock}
use Rattle.mem_blocks.specs.{Web.Block, Web.Home, Web.Content, Web.block, Web.vacant, declared.sizes.TheConstants.SLOTS}
use Rattle.own_cells.specs.{OneChain.OwnChainCells.Piece, OneChain.OwnChainCells.OwnChain, declared.chain.own_chain.Name.Name, declared.chain.own_chain.Spare.Spare, declared.chain.own_chain.OwnChain.TheInside.Inside}

abbrev pub name_at : {T : Type 0} → ℕ → Ptr → Name T
name_at k p = record { number = k; link = record { ptr = p } }

-- the block with this number, by the link to it, or none where the link leads nowhere
abbrev pub linked_name : {T : Type 0} → ℕ → Ptr → Option (Name T)
linked_name k null_ptr = None
linked_name k (block_ptr b o) = Some (name_at k (block_ptr b o))

-- what is in a slot
abbrev pub content_of : {T : Type 0} → Home T → Option T
content_of None = None
content_of (Some c) = c

abbrev pub contents : {T : Type 0} → List (Home T) → List (Option T)
contents [] = []
contents (h ∷ hs) = content_of h ∷ contents hs

-- the block number k
abbrev pub piece : {T : Type 0} → ℕ → Block T → Piece T
piece k x = record { name = name_at k x.at; next = linked_name (k + 1) x.next; states = x.words; slots = contents x.homes }

abbrev pub pieces_from : {T : Type 0} → ℕ → List (Block T) → List (Piece T)
pieces_from k [] = []
pieces_from k (x ∷ xs) = piece k x ∷ pieces_from (k + 1) xs

-- the blocks that are held: those before the number `first` were given up
abbrev pub pieces_of : {T : Type 0} → ℕ → List (Block T) → List (Piece T)
pieces_of first blocks = pieces_from first (drop first blocks)

abbrev pub spare_name : {T A : Type 0} → Option (Spare T A) → Option (Name T)
spare_name None = None
spare_name (Some s) = Some s.name

abbrev pub own_chain_view : {T A : Type 0} → Inside T A → OwnChain T
own_chain_view s = record {
  head = s.head;
  tail = s.tail;
  head_block = s.head_block;
  tail_block = s.tail_block;
  first = s.laid - s.held;
  pieces = pieces_of (s.laid - s.held) s.chain.blocks;
  spare = spare_name s.spare;
}

-- slots that are at home
abbrev pub at_home : {T : Type 0} → List (Content T) → List (Home T)
at_home [] = []
at_home (c ∷ cs) = Some c ∷ at_home cs

-- a block that is held: it has as many words and slots as a block has, and each slot is at home
pub record IsHeld {T : Type 0} (x : Block T) : Type 0 where
  pub alive : x.alive ≡ true
  pub place : InBlock x.at
  pub words : length x.words ≡ SLOTS
  pub homes : length x.homes ≡ SLOTS
  pub home : at_home (contents x.homes) ≡ x.homes

-- the block that was granted is as it was made, and its number is the next one
abbrev pub IsFresh : {T A : Type 0} → A → ℕ → Option (Spare T A) → Type 0
IsFresh alloc laid None = Unit {0}
IsFresh alloc laid (Some s) =
    (s.name.number ≡ laid) × InBlock s.name.link.ptr × (s.block.heap ≡ alloc) × (s.block.at ≡ s.name.link.ptr) × (s.block.next ≡ null_ptr)
    × (s.block.words ≡ replicate SLOTS 0) × (s.block.homes ≡ replicate SLOTS vacant)

-- the numbers tell which blocks are held
pub record IsLinked {T A : Type 0} (s : Inside T A) : Type 0 where
  pub heap : s.chain.heap ≡ s.alloc
  pub laid : length s.chain.blocks ≡ s.laid
  pub short : s.laid ≤ 2 ^ 63
  pub held : s.held ≤ s.laid
  pub blocks : (k : ℕ) → s.laid - s.held ≤ k → k < s.laid → IsHeld (block s.chain.blocks k)
  pub spare : IsFresh s.alloc s.laid s.spare
