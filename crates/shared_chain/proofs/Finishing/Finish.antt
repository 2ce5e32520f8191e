-- What is left of a shared chain that its only party ended is a chain with one owner, in the state after the history.
use Rattle.queue_laws.proofs.Chain.ChainTransitions.{no_front}
use Rattle.std.proofs.Common.{◌≡◌, ◌⊎◌, ◌∙◌, inl, inr, ℕ, suc, ◌+◌, ◌-◌, ◌*◌, ◌/◌, ◌%◌, ◌<◌, ◌≤◌, ◌==◌, Bool, true, List, [], ◌∷◌, length, slice_get, Option, Some, refl, sym, ap, subst, arith}
use denote.RawPtr.{Ptr}
use Rattle.queue_laws.specs.Common.Vocabulary.{BLOCK_SLOTS}
use Rattle.queue_laws.specs.Chain.{ChainFacts.place, ChainCells.Chain, ChainCells.queue_of, ChainCells.ChainOk, ChainAnswers.tail_word, ChainAnswers.head_word, ChainAnswers.last_of, ChainAnswers.shown_of}
use Rattle.queue_steps.specs.{Legal.IsShown, Words.is_shut, Words.tail_of, ChainWords.offset_at, ChainWords.offset_of}
use Rattle.queue_laws.proofs.{Common.Tails.position_tail, Common.Tails.shut_tail, Chain.ChainPlaces.place_offset, Chain.ChainAnswers.tail_items, Chain.ChainAnswers.head_items, Chain.ChainAnswers.resting_word, Chain.ChainAnswers.standing_word}
use Rattle.mem_blocks.specs.{Web.Block, Web.block, Web.word_of, declared.block.BlockPtr.BlockPtr, declared.hub.TheConstants.TAIL, declared.hub.TheConstants.HEAD}
use Rattle.own_cells.specs.OneChain.{OwnChainCells.Piece, OwnChainCells.OwnChain, OwnChainCells.piece_at, OwnChain.name_at, OwnChain.pieces_of, ChainMemory.named_by, ChainMemory.own_chain_in}
use Rattle.own_cells.specs.OneChain.OwnChainOwned.{taken, accepted, items_from, own_chain_queue, HoldsItems, IsBare, IsLaid, IsIdle}
use Rattle.shared_chain.{specs.Spots.spot, specs.ChainCalls.OutChain, specs.Ending.LeadsTo, specs.Ending.IntoBlock, specs.Rule.lead_of, specs.Rule.Codes, proofs.Frames.Resting.AtRest}
use Rattle.shared_chain.proofs.Finishing.Ended.{lead_named, lead_none, items_are, left, pieces, long, long_pieces, stays, piece_is, holds, held_is, linked}

nil_if : {A : Type 0} (xs : List A) → length xs ≡ 0 → xs ≡ []
nil_if [] e = refl
nil_if (x ∷ xs) e = absurd (omega (arith, e))

-- a head at rest tells its front
word_rests : (n : ℕ) (more : Bool) → offset_of (tail_of (place n) more) < BLOCK_SLOTS
word_rests n more = subst (λ z. offset_at z < BLOCK_SLOTS) (sym (position_tail (place n) more)) (let o = place_offset n in omega arith)

module _ {A : Type 0} (te he : Ptr) (g : OutChain A) (bs : List (Block A)) (ok : ChainOk g.chain) (codes : Codes te he g bs) (rest : AtRest g.chain) where
  abbrev c : Chain A
  c = g.chain

  abbrev xs : List (Block A)
  xs = left te he g bs ok codes rest

  abbrev ps : List (Piece A)
  ps = pieces te he g bs ok codes rest

  module _ (front back : Option (BlockPtr A)) (to_front : LeadsTo front (block bs 1).next) (to_back : LeadsTo back (block bs 0).next) (in_front : IntoBlock front) (in_back : IntoBlock back) where
    abbrev line : OwnChain A
    line = own_chain_in (head_word c) (tail_word c) front back xs

    h_is : taken line ≡ c.head
    h_is = head_items c ok

    t_is : accepted line ≡ c.tail
    t_is = tail_items c ok

    bare : c.tail ≡ 0 → c.blocks ≡ 0 → IsBare 0 ps (named_by 0 front) (named_by (length xs - 1) back) c.tail
    bare no_item no_block =
        let none : length xs ≡ 0 = (let l = long te he g bs ok codes rest in omega arith) in
        record {
          start = refl;
          none = ap (pieces_of 0) (nil_if xs none);
          unused = no_item;
          front = lead_none 0 front in_front (subst (LeadsTo front) (codes.head.next ∙ ap (λ s. lead_of (shown_of s (c.names c.front))) (no_front c ok no_block).0) to_front);
          back = lead_none (length xs - 1) back in_back (subst (LeadsTo back) (codes.tail.next ∙ ap (λ n. lead_of (last_of c.names n)) no_block) to_back);
        }

    laid : c.blocks ≡ c.tail / BLOCK_SLOTS + 1 → IsLaid 0 ps (named_by 0 front) (named_by (length xs - 1) back) c.head c.tail
    laid some = record {
      count = let l = long te he g bs ok codes rest in let p = long_pieces te he g bs ok codes rest in let f = rest.front in omega arith;
      linked = linked te he g bs ok codes rest;
      front = lead_named 0 front (c.names c.front) (subst (LeadsTo front) (codes.head.next ∙ ap (λ s. lead_of (shown_of s (c.names c.front))) (rest.seen (omega arith))) to_front)
          ∙ (let first : c.front ≡ c.front + 0 = omega arith in ap (λ b. Some (name_at 0 (spot (c.names b)))) first ∙ sym (named 0 (let l = long te he g bs ok codes rest in let f = rest.front in let o = rest.order in omega arith)));
      back = back_is;
      holds = subst (λ b. HoldsItems ps b c.head c.tail) rest.front (holds te he g bs ok codes rest (omega arith));
    }
      where
        named : (i : ℕ) → i < length xs → Some (piece_at ps i).name ≡ Some (name_at i (spot (c.names (c.front + i))))
        named i lt = ap (λ (x : Piece A). Some x.name) (piece_is te he g bs ok codes rest i lt) ∙ ap (λ p. Some (name_at i p)) (stays te he g bs ok codes rest i lt).1

        back_is : (i : ℕ) → i + 1 ≡ length ps → named_by (length xs - 1) back ≡ Some (piece_at ps i).name
        back_is i last =
            let l = long te he g bs ok codes rest in
            let p = long_pieces te he g bs ok codes rest in
            let end : c.blocks ≡ suc (c.front + i) = omega arith in
            let at : length xs - 1 ≡ i = omega arith in
            ap (λ n. named_by n back) at
            ∙ (lead_named i back (c.names (c.front + i)) (subst (LeadsTo back) (codes.tail.next ∙ ap (λ n. lead_of (last_of c.names n)) end) to_back)
            ∙ sym (named i (omega arith)))

    forms : IsBare 0 ps (named_by 0 front) (named_by (length xs - 1) back) c.tail ⊎ IsLaid 0 ps (named_by 0 front) (named_by (length xs - 1) back) c.head c.tail
    forms = elim (rest.laid) [ inl z ↦ inl (bare z.0 z.1) | inr z ↦ inr (laid z) ]

    known_further : (head_word c) % 2 ≡ 1 → c.head / BLOCK_SLOTS < c.tail / BLOCK_SLOTS
    known_further odd =
        let marked : c.known ≡ true = sym (shut_tail (place c.head) c.known) ∙ (ap is_shut (sym (standing_word c rest.stands)) ∙ ap (λ z. z == 1) odd) in
        let far = ok.knows marked rest.stands in
        omega arith

    few : length ps ≤ c.tail / BLOCK_SLOTS + 1
    few =
        let l = long te he g bs ok codes rest in
        let p = long_pieces te he g bs ok codes rest in
        elim (rest.laid) [ inl z ↦ (let none = z.1 in omega arith) | inr z ↦ omega arith ]

    idle_words : IsIdle line
    idle_words = record {
      head_rests = subst (λ w. offset_of w < BLOCK_SLOTS) (sym (standing_word c rest.stands)) (word_rests c.head c.known);
      tail_rests = subst (λ w. offset_of w < BLOCK_SLOTS) (sym (resting_word c rest.rests)) (word_rests c.tail c.closed);
      order = let h = h_is in let t = t_is in let o = rest.order in omega arith;
      below = let t = t_is in let m = ok.most in omega arith;
      known = λ odd. subst (λ (z : ℕ × ℕ). z.0 / BLOCK_SLOTS < z.1 / BLOCK_SLOTS) (λ i. (sym h_is i, sym t_is i)) (known_further odd);
      few = let t = t_is in let f = few in omega arith;
      no_spare = refl;
      blocks = subst (λ (z : ℕ × ℕ). IsBare 0 ps (named_by 0 front) (named_by (length xs - 1) back) z.1 ⊎ IsLaid 0 ps (named_by 0 front) (named_by (length xs - 1) back) z.0 z.1) (λ i. (sym h_is i, sym t_is i)) forms;
    }

    items : items_from ps c.front c.head (c.tail - c.head) ≡ c.items
    items = items_are ps c.front (c.tail - c.head) c.head c.items (let e = ok.count in omega arith) (λ i lt.
        let h = held_is te he g bs ok codes rest (c.head + i) (omega arith) (omega arith) (let f = rest.front in omega arith) (room i lt) in
        let back : c.head + i - c.head ≡ i = omega arith in
        (h.0, ap (λ (z : ℕ × Option A). z.1) h.1, ap (slice_get c.items) (sym back) ∙ h.2))
      where
        room : (i : ℕ) → i < c.tail - c.head → c.head + i < c.blocks * BLOCK_SLOTS
        room i lt = elim (rest.laid) [ inl z ↦ absurd (let none = z.0 in omega arith) | inr z ↦ omega arith ]

    shown_words : IsShown (own_chain_queue line) (queue_of c)
    shown_words = record {
      items = (λ i. items_from ps (h_is i / BLOCK_SLOTS) (h_is i) (t_is i - h_is i)) ∙ (ap (λ b. items_from ps b c.head (c.tail - c.head)) (sym rest.front) ∙ items);
      cap = refl;
      closed = ap is_shut (resting_word c rest.rests) ∙ shut_tail (place c.tail) c.closed;
      coming = refl;
      accepted = inr t_is;
    }

    pub finish_idle : IsIdle (own_chain_in (word_of bs 1 HEAD) (word_of bs 0 TAIL) front back xs)
    finish_idle = subst (λ (z : ℕ × ℕ). IsIdle (own_chain_in z.0 z.1 front back xs)) (λ i. (sym codes.head.word i, sym codes.tail.word i)) idle_words

    pub finish_shown : IsShown (own_chain_queue (own_chain_in (word_of bs 1 HEAD) (word_of bs 0 TAIL) front back xs)) (queue_of c)
    finish_shown = subst (λ (z : ℕ × ℕ). IsShown (own_chain_queue (own_chain_in z.0 z.1 front back xs)) (queue_of c)) (λ i. (sym codes.head.word i, sym codes.tail.word i)) shown_words
