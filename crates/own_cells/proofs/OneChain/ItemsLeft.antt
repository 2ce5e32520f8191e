-- Reading goes from item to item, and from block to block.
use Rattle.std.proofs.Common.{◌≡◌, ℕ, suc, ◌+◌, ◌-◌, ◌/◌, ◌%◌, ◌<◌, ◌≤◌, ◌∷◌, length, Option, Some, arith, sym, ap, ◌∙◌, subst, inl, inr}
use Rattle.queue_steps.specs.{declared.sizes.TheConstants.BLOCK_SLOTS, ChainWords.offset_of}
use Rattle.own_cells.specs.{OneRing.RingOwned.put_in, declared.chain.own_chain.Name.Name, OneChain.OwnChainOwned.taken, OneChain.OwnChainOwned.accepted, OneChain.OwnChainOwned.cell_of, OneChain.OwnChainOwned.items_from, OneChain.OwnChainOwned.IsIdle}
use Rattle.own_cells.specs.OneChain.OwnChainCells.{OwnChain, piece_at, piece_of, place_of, item_in, Named, CanTake, CanFollow}
use Rattle.own_cells.specs.OneChain.{ItemsLeft.next_item, ItemsLeft.items_left, ItemsLeft.Reads, Laws.OwnChainLeaves.Laid, Laws.OwnChainLeaves.head-offset, Laws.OwnChainPushes.place-is, Laws.OwnChainPushes.named-at, Laws.OwnChainPops.can-follow}

module _ {T : Type 0} (r : OwnChain T) where
  -- where an item is left, blocks were laid
  laid_some : IsIdle r → taken r < accepted r → Laid r
  laid_some i some = elim i.blocks [ inl bare ↦ absurd (let unused = bare.unused in omega arith) | inr l ↦ l ]

  -- at first all items are left
  pub begins : IsIdle r → Reads r r.head_block (offset_of r.head) (accepted r - taken r)
  begins i =
      let order = i.order in let first : next_item r (accepted r - taken r) ≡ taken r = omega arith in
      record {
        idle = i;
        within = omega arith;
        in_slot = head-offset r i ∙ ap (λ n. n % BLOCK_SLOTS) (sym first);
        in_block = λ some. let l = laid_some i (omega arith) in let here : 0 ≡ next_item r (accepted r - taken r) / BLOCK_SLOTS - taken r / BLOCK_SLOTS = rw first (omega arith) in
            l.front ∙ ap (λ k. Some (piece_at r.pieces k).name) here;
      }

  module _ (b : Name T) (slot left : ℕ) (some : 0 < left) (now : Reads r (Some b) slot left) where
    -- its number, and the place of its block
    abbrev n : ℕ
    n = next_item r left

    abbrev k : ℕ
    k = n / BLOCK_SLOTS - taken r / BLOCK_SLOTS

    l : Laid r
    l = let few = now.within in laid_some now.idle (omega arith)

    from : taken r ≤ n
    from = let few = now.within in let order = now.idle.order in omega arith

    to : n < accepted r
    to = let few = now.within in omega arith

    below : k < length r.pieces
    below = let count = l.count in let a = from in let z = to in omega arith

    named : b ≡ (piece_at r.pieces k).name
    named = let is = now.in_block some in cc

    place : place_of r b ≡ k
    place = ap (place_of r) named ∙ place-is r k l.linked below

    full : (x : T) × (item_in (piece_of r b) slot ≡ Some x)
    full = let here = l.holds.written n from to in (here.0, ap (λ j. item_in (piece_at r.pieces j) slot) place ∙ (ap (item_in (piece_at r.pieces k)) now.in_slot ∙ ap (λ (c : ℕ × Option T). c.1) here.1))

    pub can-read : CanTake r (Some b) slot
    can-read = (subst (Named r) (sym named) (named-at r k l.linked below), let at = now.in_slot in omega arith, full)

    pub can-pass : CanFollow r b
    can-pass = subst (CanFollow r) (sym named) (can-follow r now.idle l k below)

    -- the item is the first of those that are left
    pub reads : (x : T) → item_in (piece_of r b) slot ≡ Some x → items_left r left ≡ x ∷ items_left r (left - 1)
    reads x is =
        let one : left ≡ suc (left - 1) = omega arith in let next : n + 1 ≡ next_item r (left - 1) = (let few = now.within in omega arith) in
        let item : (cell_of r.pieces (taken r / BLOCK_SLOTS) n).1 ≡ Some x = sym (ap (λ j. item_in (piece_at r.pieces j) slot) place ∙ ap (item_in (piece_at r.pieces k)) now.in_slot) ∙ is in
        ap (items_from r.pieces (taken r / BLOCK_SLOTS) n) one ∙ (ap (λ o. put_in o (items_from r.pieces (taken r / BLOCK_SLOTS) (n + 1) (left - 1))) item ∙ ap (λ m. x ∷ items_from r.pieces (taken r / BLOCK_SLOTS) m (left - 1)) next)

    -- the next one is the first of the next block
    pub reads-behind : slot + 1 ≡ BLOCK_SLOTS → Reads r (piece_of r b).next 0 (left - 1)
    reads-behind outer =
        let few = now.within in let at = now.in_slot in let next : n + 1 ≡ next_item r (left - 1) = omega arith in let a = from in let z = to in
        record {
          idle = now.idle;
          within = omega arith;
          in_slot = omega arith;
          in_block = λ more. let same : k + 1 ≡ next_item r (left - 1) / BLOCK_SLOTS - taken r / BLOCK_SLOTS = omega arith in let count = l.count in
              ap (λ j. (piece_at r.pieces j).next) place ∙ (l.linked.next k (omega arith) ∙ ap (λ j. Some (piece_at r.pieces j).name) same);
        }
