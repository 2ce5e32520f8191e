-- A block is laid behind the others, and the oldest one is given up.
use Rattle.std.proofs.Common.{◌≡◌, ◌≢◌, ◌⊎◌, ℕ, ◌+◌, ◌-◌, ◌%◌, ◌^◌, ◌<◌, ◌≤◌, List, [], ◌∷◌, ◌++◌, length, replicate, Some, None, refl, arith, sym, ap, ◌∙◌, subst, inl, inr, get_or, set, bit_or, length-append}
use Rattle.std.proofs.lemmas.List.{get_or-set_other, length-set, get_or_append_left, get_or-append_right}
use denote.RawPtr.{Ptr, null_ptr, InBlock}
use Rattle.mem_blocks.specs.{Web.Block, Web.AllVacant, Web.HoldsWord, Web.block, Web.alive_at, Web.vacant, Web.with_word, Web.without, declared.sizes.TheConstants.SLOTS, declared.chain.Chain.Chain}
use Rattle.queue_steps.specs.{Effect.rest, declared.sizes.TheConstants.LIMIT, declared.sizes.TheConstants.BLOCK_SLOTS, declared.steps.chain.TheConstants.WRITE, declared.steps.chain.TheConstants.READ}
use Rattle.own_cells.specs.declared.chain.own_chain.{Name.Name, Spare.Spare, OwnChain.TheInside.Inside}
use Rattle.own_cells.specs.OneChain.{OwnChainCells.Piece, OwnChainCells.OwnChain, OwnChainCells.fresh_piece, OwnChainCells.laid, OwnChainCells.piece_of, OwnChainCells.IsEmptied, OwnChainOwned.IsIdle}
use Rattle.own_cells.specs.OneChain.OwnChain.{IsHeld, IsLinked, IsFresh, spare_name, own_chain_view, name_at, piece, pieces_of, contents}
use Rattle.own_cells.proofs.OneChain.{Pieces.append-pieces_of, Pieces.rest-pieces_of, Pieces.vacant-at_home, Linked.oldest, Linked.block_of, Linked.Knows}
use Rattle.own_cells.proofs.OneChain.OwnChainBegins.{HasRead, HasRead-none, HasRead-more, unread, begun, begun_piece, begun-idle}

module _ {T : Type 0} where
  -- a block as it is made, at p
  abbrev pub made_at : Ptr → Block T
  made_at p = alive_at p null_ptr (replicate SLOTS 0) (replicate SLOTS vacant)

  pub made-held : (p : Ptr) → InBlock p → IsHeld (made_at p)
  made-held p h = record { alive = refl; place = h; words = refl; homes = refl; home = refl }

  pub made-piece : (n : ℕ) (b : Name T) → n ≡ b.number → piece n (made_at b.link.ptr) ≡ fresh_piece b
  made-piece n b is = ap (λ k. piece k (made_at b.link.ptr)) is

  -- a block behind others
  pub held-append : (bs : List (Block T)) (x : Block T) (from : ℕ) → IsHeld x → ((j : ℕ) → from ≤ j → j < length bs → IsHeld (block bs j)) → (j : ℕ) → from ≤ j → j < length bs + 1 → IsHeld (block (bs ++ x ∷ []) j)
  held-append bs x from held all j above below = go (cases j (length bs))
    where
      cases : (i n : ℕ) → (i < n) ⊎ (n ≤ i)
      cases i n = grind arith

      go : (j < length bs) ⊎ (length bs ≤ j) → IsHeld (block (bs ++ x ∷ []) j)
      go (inl under) = subst IsHeld (sym (get_or_append_left bs (x ∷ []) (block [] 0) j under)) (all j above under)
      go (inr past) =
          let last : j - length bs ≡ 0 = omega arith in
          subst IsHeld (sym (get_or-append_right bs (x ∷ []) (length bs) j (block [] 0) refl past ∙ ap (λ i. get_or (x ∷ []) i (block [] 0)) last)) held

module _ {T A : Type 0} where
  -- the block that was granted is as it was made
  pub spare-made : (s : Inside T A) (b : Name T) (f : Spare T A) → IsLinked s → s.spare ≡ Some f → spare_name s.spare ≡ Some b
      → (b.number ≡ s.laid) × InBlock b.link.ptr × (alive_at f.block.at f.block.next f.block.words f.block.homes ≡ made_at b.link.ptr)
  spare-made s b f i is names =
      let fresh = subst (IsFresh s.alloc s.laid) is i.spare in
      let name : f.name ≡ b = cc in
      let place : f.block.at ≡ b.link.ptr = fresh.3 ∙ ap (λ n. n.link.ptr) name in
      (sym (ap (λ n. n.number) name) ∙ fresh.0, subst (λ n. InBlock n.link.ptr) name fresh.1, cc (place, fresh.4, fresh.5, fresh.6))

  -- the chain once its spare, named b, is laid
  abbrev pub with_laid : Inside T A → Name T → Chain T A → Inside T A
  with_laid s b new = record s { chain = new; tail_block = Some b; spare = None; laid = s.laid + 1; held = s.held + 1 }

  pub laid-linked : (s : Inside T A) (b : Name T) (new : Chain T A) → IsLinked s → s.laid < 2 ^ 63 → InBlock b.link.ptr → new.heap ≡ s.chain.heap → new.blocks ≡ s.chain.blocks ++ made_at b.link.ptr ∷ [] → IsLinked (with_laid s b new)
  laid-linked s b new i short place heap is =
      let more : length (s.chain.blocks ++ made_at b.link.ptr ∷ []) ≡ length s.chain.blocks + 1 = length-append s.chain.blocks (made_at b.link.ptr ∷ []) in
      record {
        heap = heap ∙ i.heap;
        laid = ap length is ∙ more ∙ ap (λ n. n + 1) i.laid;
        short = omega arith;
        held = omega (arith, i.held);
        blocks = λ j from under. subst (λ bs. IsHeld (block bs j)) (sym is)
            (held-append s.chain.blocks (made_at b.link.ptr) (oldest s) (made-held b.link.ptr place) (λ k above below. i.blocks k above (omega (arith, i.laid))) j (omega arith) (omega (arith, i.laid)));
        spare = tt;
      }

  pub laid-view : (s : Inside T A) (b : Name T) (new : Chain T A) → IsLinked s → b.number ≡ s.laid → new.blocks ≡ s.chain.blocks ++ made_at b.link.ptr ∷ [] → own_chain_view (with_laid s b new) ≡ laid (own_chain_view s) b
  laid-view s b new i numbered is =
      let first : s.laid + 1 - (s.held + 1) ≡ oldest s = omega arith in
      let N : ℕ → List (Piece T) → OwnChain T = λ n ps. record (own_chain_view s) { tail_block = Some b; first = n; pieces = ps; spare = None } in
      let long : oldest s ≤ length s.chain.blocks = omega (arith, i.laid) in
      ap (λ n. N n (pieces_of n new.blocks)) first
      ∙ ap (λ bs. N (oldest s) (pieces_of (oldest s) bs)) is
      ∙ ap (N (oldest s)) (append-pieces_of (oldest s) s.chain.blocks (made_at b.link.ptr) long)
      ∙ ap (λ p. N (oldest s) (pieces_of (oldest s) s.chain.blocks ++ p ∷ [])) (made-piece (length s.chain.blocks) b (i.laid ∙ sym numbered))

  -- the chain once its oldest block is given up
  abbrev pub with_lifted : Inside T A → Chain T A → Inside T A
  with_lifted s new = record s { chain = new; held = s.held - 1 }

  pub lifted-linked : (s : Inside T A) (b : Name T) (new : Chain T A) → IsLinked s → Knows s b → b.number ≡ oldest s → new.heap ≡ s.chain.heap → new.blocks ≡ without s.chain.blocks b.number → IsLinked (with_lifted s new)
  lifted-linked s b new i k oldest-is heap is = record {
    heap = heap ∙ i.heap;
    laid = ap length is ∙ length-set s.chain.blocks b.number _ ∙ i.laid;
    short = i.short;
    held = omega (arith, i.held);
    blocks = λ j from under.
        let above : oldest s + 1 ≤ j = omega (arith, k.below, i.held) in
        let other : j ≢ b.number = λ same. omega arith in
        subst IsHeld (sym (ap (λ bs. block bs j) is ∙ get_or-set_other s.chain.blocks b.number j _ (block [] 0) other)) (i.blocks j (omega arith) under);
    spare = i.spare;
  }

  pub lifted-view : (s : Inside T A) (b : Name T) (new : Chain T A) → IsLinked s → Knows s b → b.number ≡ oldest s → new.blocks ≡ without s.chain.blocks b.number
      → own_chain_view (with_lifted s new) ≡ record (own_chain_view s) { first = (own_chain_view s).first + 1; pieces = rest (own_chain_view s).pieces }
  lifted-view s b new i k oldest-is is =
      let first : s.laid - (s.held - 1) ≡ oldest s + 1 = omega (arith, k.below, i.held) in
      let N : ℕ → List (Piece T) → OwnChain T = λ n ps. record (own_chain_view s) { first = n; pieces = ps } in
      let under : oldest s < length s.chain.blocks = omega (arith, k.below, i.laid) in
      ap (λ n. N n (pieces_of n new.blocks)) first
      ∙ ap (λ bs. N (oldest s + 1) (pieces_of (oldest s + 1) bs)) (is ∙ ap (without s.chain.blocks) oldest-is)
      ∙ ap (N (oldest s + 1)) (rest-pieces_of (oldest s) s.chain.blocks _ under)

  -- the slots of an empty block
  pub emptied-vacant : (s : Inside T A) (b : Name T) → Knows s b → IsEmptied (piece_of (own_chain_view s) b).slots → AllVacant (block_of s b).homes
  emptied-vacant s b k h = subst AllVacant k.held.home (vacant-at_home (contents (block_of s b).homes) (subst (λ p. IsEmptied p.slots) k.piece h))

-- a chain of one block at p, whose first k slots count as read
pub record Opened {T : Type 0} (p : Ptr) (k : ℕ) (blocks : List (Block T)) : Type 0 where
  pub states : List ℕ
  pub is : blocks ≡ alive_at p null_ptr states (replicate SLOTS vacant) ∷ []
  pub read : HasRead states k

module _ {T : Type 0} where
  pub Opened-none : (p : Ptr) (blocks : List (Block T)) → blocks ≡ made_at p ∷ [] → Opened p 0 blocks
  Opened-none p blocks is = record { states = unread; is = is; read = HasRead-none }

  pub Opened-more : (p : Ptr) (k : ℕ) (blocks new : List (Block T)) → k < SLOTS → new ≡ with_word blocks 0 k (bit_or WRITE READ) → Opened p k blocks → Opened p (k + 1) new
  Opened-more p k blocks new below is o = record {
    states = set o.states k (bit_or WRITE READ);
    is = is ∙ ap (λ bs. with_word bs 0 k (bit_or WRITE READ)) o.is;
    read = HasRead-more o.states k below o.read;
  }

  pub Opened-holds : (p : Ptr) (k slot : ℕ) (blocks : List (Block T)) → slot < SLOTS → Opened p k blocks → HoldsWord blocks 0 p slot
  Opened-holds p k slot blocks below o = subst (λ bs. HoldsWord bs 0 p slot) (sym o.is) ((refl, refl), omega (arith, below, o.read.long))

  -- what it shows
  abbrev pub opened_own_chain : Name T → List (Block T) → ℕ → OwnChain T
  opened_own_chain b blocks n = record (begun b unread n) { pieces = pieces_of 0 blocks }

  pub opened-idle : (b : Name T) (k n : ℕ) (blocks : List (Block T)) → b.number ≡ 0 → n ≤ LIMIT → k ≡ n % BLOCK_SLOTS → Opened b.link.ptr k blocks → IsIdle (opened_own_chain b blocks n)
  opened-idle b k n blocks numbered below is o =
      let named : piece 0 (alive_at b.link.ptr null_ptr o.states (replicate SLOTS vacant)) ≡ begun_piece b o.states = ap (λ j. record (begun_piece b o.states) { name = name_at j b.link.ptr }) (sym numbered) in
      subst (λ bs. IsIdle (opened_own_chain b bs n)) (sym o.is)
      (subst (λ p. IsIdle (record (begun b unread n) { pieces = p ∷ [] })) (sym named) (begun-idle b o.states n numbered below (subst (HasRead o.states) is o.read)))
