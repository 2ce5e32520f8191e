-- How a chain with one owner begins where it was shared: its words tell how many blocks there are.
use Rattle.std.proofs.Common.{◌≡◌, ◌⊎◌, ℕ, ◌+◌, ◌-◌, ◌/◌, ◌<◌, ◌≤◌, ◌^◌, List, length, Option, Some, None, arith, sym, ap, ◌∙◌, inl, inr}
use Rattle.queue_steps.specs.{declared.sizes.TheConstants.BLOCK_SLOTS, Words.position_of, ChainWords.offset_at, ChainWords.block_at, ChainWords.items_before}
use Rattle.mem_blocks.specs.{Web.Block, declared.block.BlockPtr.BlockPtr}
use Rattle.own_cells.{specs.declared.chain.own_chain.Name.Name, proofs.OneChain.Pieces.length-pieces_of}
use Rattle.own_cells.specs.OneChain.{OwnChainCells.OwnChain, OwnChainCells.piece_at, OwnChain.pieces_of, OwnChainOwned.taken, OwnChainOwned.accepted, OwnChainOwned.IsBare, OwnChainOwned.IsLaid, OwnChainOwned.IsIdle, ChainMemory.block_of, ChainMemory.named_by, ChainMemory.own_chain_in}

-- at no block's end the items before a position tell its block
block_before : (p : ℕ) → offset_at p < BLOCK_SLOTS → items_before p / BLOCK_SLOTS ≡ block_at p
block_before p rests = omega arith

module _ {T : Type 0} (head tail : ℕ) (front back : Option (BlockPtr T)) (bs : List (Block T)) (idle : IsIdle (own_chain_in head tail front back bs)) where
  abbrev own_chain : OwnChain T
  own_chain = own_chain_in head tail front back bs

  long : length (pieces_of 0 bs) ≡ length bs
  long = length-pieces_of 0 bs ∙ omega arith

  in_blocks : (IsLaid own_chain.first own_chain.pieces own_chain.head_block own_chain.tail_block (taken own_chain) (accepted own_chain)) → length bs ≡ block_of tail - block_of head + 1
  in_blocks laid =
      let h = block_before (position_of head) idle.head_rests in
      let t = block_before (position_of tail) idle.tail_rests in
      let order = idle.order in
      let count = laid.count in
      let l = long in
      omega arith

  pub count_none : back ≡ None → length bs ≡ 0
  count_none none = go idle.blocks
    where
      go : IsBare own_chain.first own_chain.pieces own_chain.head_block own_chain.tail_block (accepted own_chain) ⊎ IsLaid own_chain.first own_chain.pieces own_chain.head_block own_chain.tail_block (taken own_chain) (accepted own_chain) → length bs ≡ 0
      go (inl bare) = sym long ∙ ap length bare.none
      go (inr laid) =
          let some = in_blocks laid in
          let l = long in
          let last = laid.back (length bs - 1) (omega arith) in
          let no : None ≡ Some (piece_at own_chain.pieces (length bs - 1)).name = sym (ap (named_by (length bs - 1)) none) ∙ last in
          cc

  abbrev the_name : BlockPtr T → Name T
  the_name l = record { number = length bs - 1; link = l }

  pub count_some : (l : BlockPtr T) → back ≡ Some l → length bs ≡ block_of tail - block_of head + 1
  count_some l some = go idle.blocks
    where
      go : IsBare own_chain.first own_chain.pieces own_chain.head_block own_chain.tail_block (accepted own_chain) ⊎ IsLaid own_chain.first own_chain.pieces own_chain.head_block own_chain.tail_block (taken own_chain) (accepted own_chain) → length bs ≡ block_of tail - block_of head + 1
      go (inl bare) = let no : Some (the_name l) ≡ None = sym (ap (named_by (length bs - 1)) some) ∙ bare.back in cc
      go (inr laid) = in_blocks laid

  pub count_short : tail < 2 ^ 64 → length bs ≤ 2 ^ 63
  count_short word = go idle.blocks
    where
      go : IsBare own_chain.first own_chain.pieces own_chain.head_block own_chain.tail_block (accepted own_chain) ⊎ IsLaid own_chain.first own_chain.pieces own_chain.head_block own_chain.tail_block (taken own_chain) (accepted own_chain) → length bs ≤ 2 ^ 63
      go (inl bare) = let none : length bs ≡ 0 = sym long ∙ ap length bare.none in omega arith
      go (inr laid) = let count = in_blocks laid in let small : block_of tail ≤ tail = omega arith in let half : block_of tail < 2 ^ 62 = omega arith in omega arith
