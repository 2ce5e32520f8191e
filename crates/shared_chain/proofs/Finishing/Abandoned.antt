-- A shared chain that no party has any more, whatever calls were on their way: where the head stands, the blocks from the front's on are in the web, and the state
-- word of each slot tells where its item is.
use Rattle.queue_laws.proofs.Chain.{ChainTransitions.item_free, ChainAnswers.tail_items, ChainAnswers.head_items, ChainAnswers.head_is_standing}
use Rattle.std.proofs.Common.{◌≡◌, ◌≢◌, ◌⊎◌, ◌∙◌, inl, inr, ℕ, ◌+◌, ◌*◌, ◌<◌, ◌≤◌, Bool, true, bit_and, List, length, refl, sym, ap, subst, arith}
use mathlib.Core.Option.{some}
use denote.RawPtr.{Ptr, null_ptr, InBlock, Testable}
use Rattle.queue_laws.specs.{Common.Vocabulary.LIMIT, Common.Vocabulary.BLOCK_SLOTS, Common.Vocabulary.WRITE, Common.Vocabulary.READ, Chain.ChainAnswers.linked_of, Chain.ChainAnswers.shown_of}
use Rattle.queue_steps.specs.{Words.position_of, ChainWords.offset_of, ChainWords.items_before}
use Rattle.queue_laws.specs.Chain.ChainCells.{Writer, Wrote, Reader, Unread, Done, Mover, Rests, Stands, LinkState as Joint, Linked, Shown, Seen, Passer, Before, GivenUp, Chain, ItemOk, BlocksOk, LinkOk, ShownOk, ChainOk, item_at}
use Rattle.mem_blocks.specs.{Web.Block, Web.block, Web.vacant, Web.full, Web.Lives, Web.without, Web.word_of, Web.LastBlocks, declared.hub.TheConstants.TAIL, declared.hub.TheConstants.HEAD}
use Rattle.own_cells.specs.OneChain.ChainMemory.{block_of}
use Rattle.shared_chain.specs.{Spots.spot, ChainCalls.OutChain, Leftover.SlotLeft, Leftover.BlockLeft, Leftover.StaysLeft, Leftover.BlocksLeft, Rule.home_of, Rule.plain_state, Rule.lead_of, Rule.BlockIs, Rule.Codes, Rule.Rule}
use Rattle.shared_chain.proofs.{Frames.Blocks.alive_is, Frames.Tested.next_tested, Frames.Resting.front_before, Frames.Resting.word_front, Finishing.Finished.inner, Finishing.Finished.long_inner, Finishing.Finished.inner_else}

-- an item that was taken, and is read, is out of its slot
read_left : {A : Type 0} (w : Writer A) (r : Reader) (b : Bool) → bit_and (plain_state w r) READ ≢ 0 → home_of w r b ≡ vacant
read_left (Wrote v) Done b set = refl
read_left w r b set = absurd (set refl)

-- one that was not taken, and is written, lies in its slot
written_left : {A : Type 0} (head tail : ℕ) (items : List A) (n : ℕ) (w : Writer A) (r : Reader) (b : Bool) → head ≤ n → bit_and (plain_state w r) WRITE ≢ 0 → ItemOk head tail items n w r → (v : A) × (home_of w r b ≡ full v)
written_left head tail items n (Wrote v) Unread b low set ok = (v, refl)
written_left head tail items n (Wrote v) r b low set ok = absurd (omega arith)
written_left head tail items n w r b low set ok = absurd (set refl)

few_blocks : (tail blocks : ℕ) (m : Mover) → tail ≤ LIMIT → BlocksOk tail blocks m → (blocks + 2) * BLOCK_SLOTS ≤ 2 * LIMIT
few_blocks tail blocks Rests low (inl z) = let none = z.1 in omega arith
few_blocks tail blocks Rests low (inr z) = omega arith
few_blocks tail blocks m low z = let all = z.1 in omega arith

-- where a link leads
next_of_link : (blocks b : ℕ) (l : Joint) (name : ℕ) → LinkOk blocks b l → (lead_of (linked_of l name) ≡ null_ptr) ⊎ ((b + 1 < blocks) × (lead_of (linked_of l name) ≡ spot name))
next_of_link blocks b Linked name ok = inr (ok, refl)
next_of_link blocks b l name ok = inl refl

-- a link that leads into a block shows the front
front_shown : (blocks head front : ℕ) (known : Bool) (passer : Passer) (s : Shown) (name : ℕ) → ShownOk blocks head front known passer s → InBlock (lead_of (shown_of s name)) → (front < blocks) × (lead_of (shown_of s name) ≡ spot name)
front_shown blocks head front known passer Seen name ok inside = (ok, refl)
front_shown blocks head front known passer s name ok inside = absurd inside

module _ {A : Type 0} (te he : Ptr) (bs : List (Block A)) (last : LastBlocks (Rule {T = A} te he) bs) where
  abbrev g : OutChain A
  g = last.1.cells

  abbrev c : Chain A
  c = g.chain

  abbrev codes : Codes te he g bs
  codes = last.1.codes

  abbrev ok : ChainOk c
  ok = last.1.all.ok

  abbrev two : 1 < length bs
  two = let s = codes.size in omega arith

  taken_is : items_before (position_of (word_of bs 1 HEAD)) ≡ c.head
  taken_is = ap (λ w. items_before (position_of w)) codes.head.word ∙ head_items c ok

  accepted_is : items_before (position_of (word_of bs 0 TAIL)) ≡ c.tail
  accepted_is = ap (λ w. items_before (position_of w)) codes.tail.word ∙ tail_items c ok

  module _ (rests : offset_of (word_of bs 1 HEAD) ≢ BLOCK_SLOTS) where
    stands : c.passer ≡ Stands
    stands = head_is_standing c ok (λ e. rests (ap offset_of codes.head.word ∙ e))

    from_is : block_of (word_of bs 1 HEAD) ≡ c.front
    from_is = ap block_of codes.head.word ∙ word_front c ok stands

    alive_at_front : (b : ℕ) → c.front ≤ b → b < c.blocks → Lives bs (b + 2) (spot (c.names b)) × BlockIs g b (block bs (b + 2))
    alive_at_front b from lt = alive_is te he g bs b codes lt (λ e. let z : Before ≡ GivenUp = sym (front_before c ok stands b from) ∙ e in cc)

    slot_left : (b i : ℕ) (x : Block A) → c.front ≤ b → BlockIs g b x → i < BLOCK_SLOTS → SlotLeft c.head c.tail (b * BLOCK_SLOTS + i) i x
    slot_left b i x from is low =
        let n = item_at b i in
        let word = is.plain (front_before c ok stands b from) i low in
        let home = is.slot i low in
        let item = ok.item (b * BLOCK_SLOTS + i) in
        record {
          read = λ lt set. home ∙ ap some (read_left (c.writers n) (c.readers n) (g.out n) (λ e. set (ap (λ w. bit_and w READ) word ∙ e)));
          written = λ le set. let w = written_left c.head c.tail c.items n (c.writers n) (c.readers n) (g.out n) le (λ e. set (ap (λ z. bit_and z WRITE) word ∙ e)) item in (w.0, home ∙ ap some w.1);
          free = λ le. let f = item_free c n ok le in home ∙ (λ k. some (home_of (f.0 k) (f.1 k) (g.out n)));
        }

    stays_left : (b : ℕ) → c.front ≤ b → b + 2 < length (inner bs two) → StaysLeft c.head c.tail b (inner bs two)
    stays_left b from within =
        let long = long_inner bs two in
        let size = codes.size in
        let a = alive_at_front b from (omega arith) in
        let here = inner_else bs two b in
        record {
          alive = ap (λ (x : Block A). x.alive) here ∙ a.0.0;
          block_left = subst (λ (x : Block A). BlockLeft c.head c.tail (b * BLOCK_SLOTS) x) (sym here) (record { words = a.1.words; homes = a.1.homes; slot = λ i low. slot_left b i (block bs (b + 2)) from a.1 low });
          tested = subst (λ (x : Block A). Testable x.next) (sym here) (next_tested te he g bs ok codes (b + 2) a.0.0);
          leads = elim (next_of_link c.blocks b (c.links b) (c.names (b + 1)) (ok.link b)) [
            | inl none ↦ inl (ap (λ (x : Block A). x.next) here ∙ (a.1.linked ∙ none))
            | inr more ↦ inr (let lt = more.0 in omega arith, leads b from more here a.1.linked)
          ];
        }
      where
        leads : (b : ℕ) → c.front ≤ b → (b + 1 < c.blocks) × (lead_of (linked_of (c.links b) (c.names (b + 1))) ≡ spot (c.names (b + 1))) → block (inner bs two) (b + 2) ≡ block bs (b + 2)
            → (block bs (b + 2)).next ≡ lead_of (linked_of (c.links b) (c.names (b + 1))) → (block (inner bs two) (b + 2)).next ≡ (block (inner bs two) (b + 3)).at
        leads b from more here linked =
            let to : b + 1 + 2 ≡ b + 3 = omega arith in
            let next : (block (inner bs two) (b + 3)).at ≡ spot (c.names (b + 1)) =
            ap (λ k. (block (inner bs two) k).at) (sym to) ∙ (ap (λ (x : Block A). x.at) (inner_else bs two (b + 1)) ∙ (alive_at_front (b + 1) (omega arith) more.0).0.1) in
            ap (λ (x : Block A). x.next) here ∙ (linked ∙ (more.1 ∙ sym next))

    pub blocks_left : BlocksLeft (items_before (position_of (word_of bs 1 HEAD))) (items_before (position_of (word_of bs 0 TAIL))) (block_of (word_of bs 1 HEAD)) (without (without bs 0) 1)
    blocks_left = subst (λ (z : ℕ × ℕ × ℕ). BlocksLeft z.0 z.1 z.2 (inner bs two)) (λ i. (sym taken_is i, sym accepted_is i, sym from_is i))
        (record { few = let long = long_inner bs two in let size = codes.size in let f = few_blocks c.tail c.blocks c.mover ok.most ok.laid in omega arith; stays = stays_left })

    pub front_left : (p : Ptr) → p ≡ (block bs 1).next → InBlock p → Lives (without (without bs 0) 1) (block_of (word_of bs 1 HEAD) + 2) p
    front_left p is inside =
        let shown = front_shown c.blocks c.head c.front c.known c.passer c.shown (c.names c.front) ok.seen (subst InBlock (is ∙ codes.head.next) inside) in
        let a = alive_at_front c.front (omega arith) shown.0 in
        subst (λ (z : Block A). (z.alive ≡ true) × (z.at ≡ p)) (sym (ap (λ b. block (inner bs two) (b + 2)) from_is ∙ inner_else bs two c.front)) (a.0.0, a.0.1 ∙ sym (is ∙ (codes.head.next ∙ shown.1)))
