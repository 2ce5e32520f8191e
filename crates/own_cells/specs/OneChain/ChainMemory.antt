-- A chain of blocks that is no longer shared, as one with one owner.
use Rattle.std.specs.Prelude.{ℕ, ◌-◌, ◌<◌, List, length, Option, Some, None}
use Rattle.mem_blocks.specs.{Web.Block, Web.block, declared.block.BlockPtr.BlockPtr}
use Rattle.queue_steps.specs.{Words.position_of, ChainWords.block_at}
use Rattle.own_cells.specs.{declared.chain.own_chain.Name.Name, OneChain.OwnChainCells.OwnChain, OneChain.OwnChain.IsHeld, OneChain.OwnChain.pieces_of}

-- the number of the block that a word's position is in
abbrev pub block_of : ℕ → ℕ
block_of word = block_at (position_of word)

-- the block of this number, where there is a link to it
abbrev pub named_by : {T : Type 0} → ℕ → Option (BlockPtr T) → Option (Name T)
named_by k None = None
named_by k (Some l) = Some (record { number = k; link = l })

-- the chain of these blocks, of which the front's is the first: the words of the head and the tail, and the links to the head's block and to the tail's
abbrev pub own_chain_in : {T : Type 0} → ℕ → ℕ → Option (BlockPtr T) → Option (BlockPtr T) → List (Block T) → OwnChain T
own_chain_in head tail front back bs = record {
  head = head;
  tail = tail;
  head_block = named_by 0 front;
  tail_block = named_by (length bs - 1) back;
  first = 0;
  pieces = pieces_of 0 bs;
  spare = None;
}

-- every block is held
abbrev pub AreHeld : {T : Type 0} → List (Block T) → Type 0
AreHeld bs = (k : ℕ) → k < length bs → IsHeld (block bs k)
