-- What is left to read of a chain of blocks.
use Rattle.std.specs.Prelude.{◌≡◌, ℕ, ◌-◌, ◌/◌, ◌%◌, ◌<◌, ◌≤◌, List, Option, Some}
use Rattle.queue_steps.specs.declared.sizes.TheConstants.{BLOCK_SLOTS}
use Rattle.own_cells.specs.{declared.chain.own_chain.Name.Name, OneChain.OwnChainCells.OwnChain, OneChain.OwnChainCells.piece_at, OneChain.OwnChainOwned.taken, OneChain.OwnChainOwned.accepted, OneChain.OwnChainOwned.items_from, OneChain.OwnChainOwned.IsIdle}

module _ {T : Type 0} (r : OwnChain T) where
  -- the number of the next item, where so many are left
  abbrev pub next_item : ℕ → ℕ
  next_item left = accepted r - left

  -- the last items of the queue, so many as are left
  abbrev pub items_left : ℕ → List T
  items_left left = items_from r.pieces (taken r / BLOCK_SLOTS) (next_item left) left

  -- the next item is in this slot of this block
  pub record Reads (block : Option (Name T)) (slot left : ℕ) : Type 0 where
    pub idle : IsIdle r
    pub within : left ≤ accepted r - taken r
    pub in_slot : slot ≡ next_item left % BLOCK_SLOTS
    pub in_block : 0 < left → block ≡ Some (piece_at r.pieces (next_item left / BLOCK_SLOTS - taken r / BLOCK_SLOTS)).name
