-- The exchange of the tail's word: a push that wins claims the next item, and takes its slot, which is vacant.
use Rattle.shared_chain.proofs.{Frames.States.SlotAt, Frames.States.slot_at, Steps.Spared.tail_spare, Frames.Leaves.spare_on}
use lib.ListN.{get_elem?}
use Rattle.std.proofs.{Common.lit<, lemmas.Bool.Decides.eqb_tells, Common.length, Common.set, Common.if◌then◌else◌}
use Rattle.queue_laws.proofs.{Chain.ChainEnds.ends_made, Common.Puts.put_same, Chain.ChainTransitions.item_free, Chain.ChainTransitions.next_free, Chain.ChainAnswers.same_tail, Chain.ChainSlots.step_block, Chain.ChainEnds.ends_of}
use Rattle.std.proofs.Common.{ℕ, ◌+◌, ◌/◌, ◌%◌, ◌<◌, ◌≡◌, ◌≢◌, ◌==◌, ◌∙◌, inl, inr, Bool, true, false, Option, Some, None, IsSome, List, [], ◌∷◌, refl, sym, ap, subst, arith, length-set}
use denote.RawPtr.{Ptr}
use mathlib.Core.Option.{some}
use Rattle.queue_laws.specs.Common.{Vocabulary.Word, Vocabulary.Op, Vocabulary.Answer, Vocabulary.Local, Vocabulary.Next, Vocabulary.PushKind, Vocabulary.BLOCK_SLOTS, Vocabulary.TAIL_STEP, Puts.put, Stand.brings}
use Rattle.queue_laws.specs.Chain.{ChainAfter.if_claimed, ChainPasses.spare_in, ChainAt.At, ChainAt.IsLast, ChainAt.claiming, ChainAnswers.tail_word, ChainFacts.open_tail_of, ChainFacts.IsNamed, ChainFacts.TailBlockIs, ChainFacts.HasSpare, ChainFacts.SawTail, ChainCells.Reader, ChainCells.Writer, ChainAfter.claimed_if}
use Rattle.queue_steps.specs.{State.State, ChainWords.offset_of, ChainNext.chain_next, ChainNext.lays, ChainNext.writes, declared.steps.chain.ChainLocal.ChainLocal as chain, ChainNext.is_last_slot}
use Rattle.queue_laws.specs.Chain.ChainCells.{Writing, Unread, Done, Rests, Chain, ChainOk, Read, HoldsOnly, Nothing, writer_of, reader_of, item_at}
use Rattle.mem_blocks.specs.{Web.Block, Web.Sitter, Web.block, Web.Rests as AtHome, Web.homed, Web.takes, Web.away, Web.word_of, Web.with_home, declared.hub.TheConstants.TAIL}
use Rattle.shared_parties.specs.declared.known.CallState.{CallState}
use Rattle.shared_chain.specs.{Spots.spot, ChainCalls.OutChain, ChainCalls.ChainLent, Rule.home_of, Rule.IsThere, Rule.Codes, Steps.carried_by, Steps.slot_block, Steps.HoldsBy, Steps.BlockStep}
use Rattle.shared_chain.proofs.Frames.{Blocks.home_here, Blocks.home_else, Blocks.there_with, Blocks.home_in, Ends.ends_as, Ends.ends_coded, Ends.made_else, Ends.made_long, Stepping.home_stays, Stepping.block_stays, Stepping.codes_made, Stepping.codes_ends, Homes.some_other, Homes.none_other, Leaves.Leaves, Leaves.idles_free, Leaves.none_holds, Leaves.nothing_held, Leaves.op_step}
use Rattle.shared_chain.specs.Steps.{blocks_made}
use Rattle.atomic_table.proofs.Lists.{set_else, set_here}

-- the call goes on with this block, of which it has a slot, and with this spare
abbrev HoldsOn : ℕ → Option ℕ → Next ℕ → Type 0
HoldsOn name spare (Next.Step l t o) = (spare_in l ≡ spare) × (slot_block l o ≡ name)
HoldsOn name spare (Next.Reply x s) = ⊥

lays_on : (d : PushKind) (tail name : ℕ) (spare : Option ℕ) → HoldsOn name spare (lays d tail name spare)
lays_on d tail name None = (refl, refl)
lays_on d tail name (Some f) = (refl, refl)

-- what the exchange makes of the items where it wins
claimed_items : {A : Type 0} (c : Chain A) (who : ℕ) (v : A) (last : Bool) → let s : Chain A = claimed_if c who v true last in (s.writers ≡ put c.writers c.tail (Writing who v)) × (s.readers ≡ c.readers)
claimed_items c who v true = (refl, refl)
claimed_items c who v false = (refl, refl)

module _ {A : Type 0} (te he : Ptr) (g : OutChain A) (who : ℕ) (bs : List (Block A)) (m : Sitter A (CallState A)) (ms : List (State A)) where
  pub step_claiming : (d : PushKind) (v : A) (q name : ℕ) (spare : Option ℕ) (none : HoldsOnly g.chain who Nothing) (spare_is : HasSpare g.chain who spare) (saw : SawTail g.chain q ms) (found : TailBlockIs g.chain q name)
      (enough : IsLast q → IsSome spare)
      → ChainOk g.chain → Codes te he g bs → (xs : List (ℕ × Option A)) → ChainLent g who xs
      → HoldsBy (Local.Chain (chain.Claiming d (open_tail_of q) name spare)) (Op.Exchange Word.Tail (open_tail_of q) (open_tail_of q + TAIL_STEP)) xs m
      → BlockStep te he g who bs m {ms = ms} (claiming d v q name spare none spare_is saw found enough)
  step_claiming d v q name spare none spare_is saw found enough ok codes xs lent held =
      op_step here 0 codes.tail.lives (λ z. refl) tt (ap (λ w. Answer.Found w) codes.tail.word) (elim (eqb_tells (word_of bs 0 TAIL) (open_tail_of q)) [
        | inl e ↦ won (same_bit true e.0) (sym codes.tail.word ∙ e.1) (chain_next (chain.Claiming d (open_tail_of q) name spare) a)
            (rw (e.0) (elim (is_last_slot (open_tail_of q)) as (λ t. HoldsOn name spare (if t then lays d (open_tail_of q) name spare else writes d (open_tail_of q) name spare)) [ true ↦ lays_on d (open_tail_of q) name spare | false ↦ (refl, refl) ]))
        | inr e ↦ lost (same_bit false e.0) (rw (e.0) (tail_spare d (word_of bs 0 TAIL) spare))
      ])
    where
      op : Op ℕ
      op = Op.Exchange Word.Tail (open_tail_of q) (open_tail_of q + TAIL_STEP)

      here : At g.chain who ms (brings (Local.Chain (chain.Claiming d (open_tail_of q) name spare)) (Op.Exchange Word.Tail (open_tail_of q) (open_tail_of q + TAIL_STEP)) d v)
      here = claiming d v q name spare none spare_is saw found enough

      a : Answer ℕ
      a = Answer.Found (word_of bs 0 TAIL)

      r : Chain A
      r = if_claimed g.chain who q v

      ws : List (Block A)
      ws = blocks_made (Op.Exchange Word.Tail (open_tail_of q) (open_tail_of q + TAIL_STEP)) 0 bs

      same_bit : (b : Bool) → (word_of bs 0 TAIL == open_tail_of q) ≡ b → (tail_word g.chain == open_tail_of q) ≡ b
      same_bit b e = ap (λ w. w == open_tail_of q) (sym codes.tail.word) ∙ e

      empty : (m.hand ≡ None) × (m.spare ≡ carried_by spare)
      empty = nothing_held g who (Local.Chain (chain.Claiming d (open_tail_of q) name spare)) op xs m none lent held

      lost : (tail_word g.chain == open_tail_of q) ≡ false → spare_on (chain_next (chain.Claiming d (open_tail_of q) name spare) (Answer.Found (word_of bs 0 TAIL))) ≡ spare
          → Leaves te he g who ws m (if_claimed g.chain who q v) (chain_next (chain.Claiming d (open_tail_of q) name spare) (Answer.Found (word_of bs 0 TAIL)))
      lost bit same =
          let x = chain_next (chain.Claiming d (open_tail_of q) name spare) a in
          let stays : g.chain ≡ if_claimed g.chain who q v = sym (ap (λ t. claimed_if g.chain who v t (offset_of (open_tail_of q) + 1 == BLOCK_SLOTS)) bit) in
          subst (λ (s : Chain A). Leaves te he g who ws m s x) stays (idles_free (codes_ends te he g here a g.chain (sym stays) g.out ok bs codes refl 0 (lit< tt) tt refl (λ b i. refl)) none (none_holds x spare m same empty))

      won : (tail_word g.chain == open_tail_of q) ≡ true → tail_word g.chain ≡ open_tail_of q → (n : Next ℕ) → HoldsOn name spare n → Leaves te he g who ws m (if_claimed g.chain who q v) n
      won bit e (Next.Reply y s) on = absurd on
      won bit e (Next.Step l t o) on = record {
        out = g.out;
        acts = takes (b + 2) i None ∷ [];
        mays = ((rw else_word is.lives.0, rests), tt);
        codes = codes_made te he g here a r refl g.out ok bs codes refl cs (length-set ws (b + 2) (homed (block ws (b + 2)) i away) ∙ made_long op 0 bs)
            (ends_as te he (ends_made op (ends_of g.chain)) ws cs (ends_coded te he (ends_of g.chain) bs (omega (arith, codes.size)) (codes.tail, codes.head) op 0 tt) (λ j two. home_else ws (b + 2) i away j (λ z. omega (arith, z, two)))) there;
        others = λ j ne n z. refl;
        slots = λ n z. absurd (none (Read n) (ap reader_of (sym (ap (λ (f : ℕ → Reader). f n) items.1) ∙ z)));
        lends = (i, None) ∷ [];
        lent = inr (q, None, inl (mine, refl), refl);
        holds = (ap (λ (z : Ptr). Some (z, i, None)) (ap (λ (y : Block A). y.at) else_word ∙ is.lives.1 ∙ ap spot (sym on.1)), empty.1 ∙ ap carried_by (sym on.0));
      }
        where
          b : ℕ
          b = q / BLOCK_SLOTS

          i : ℕ
          i = q % BLOCK_SLOTS

          cs : List (Block A)
          cs = with_home ws (b + 2) i away

          same : (g.chain.closed ≡ false) × (g.chain.tail ≡ q) × (g.chain.mover ≡ Rests)
          same = same_tail g.chain q ok saw.is e

          named : IsNamed g.chain b name
          named = elim found [ inl lt ↦ absurd (let z = same.1 in omega arith) | inr h ↦ h ]

          is : SlotAt te he g bs q (q % BLOCK_SLOTS) name
          is = slot_at te he ok codes named refl (λ z. let y : Unread ≡ Done = sym (item_free g.chain q ok (let h = same.1 in omega arith)).1 ∙ z in cc)

          at : item_at b i ≡ g.chain.tail
          at = is.at ∙ sym same.1

          else_word : block ws (b + 2) ≡ block bs (b + 2)
          else_word = made_else op 0 bs (b + 2) (λ z. absurd (omega arith))

          rests : AtHome ws (b + 2) i None
          rests = rw else_word (is.block_is.slot i is.low ∙ ap (λ w. some (home_of w (g.chain.readers (item_at b i)) (g.out (item_at b i)))) (ap g.chain.writers at ∙ (next_free g.chain ok).0))

          items : (r.writers ≡ put g.chain.writers g.chain.tail (Writing who v)) × (r.readers ≡ g.chain.readers)
          items = rw bit (claimed_items g.chain who v (offset_of (open_tail_of q) + 1 == BLOCK_SLOTS))

          writes_next : r.writers g.chain.tail ≡ Writing who v
          writes_next = ap (λ (f : ℕ → Writer A). f g.chain.tail) items.0 ∙ put_same g.chain.writers g.chain.tail (Writing who v)

          mine : writer_of (r.writers q) ≡ Some who
          mine = ap (λ n. writer_of (r.writers n)) (sym same.1) ∙ ap (λ w. writer_of w) writes_next

          after : OutChain A
          after = record { chain = r; out = g.out }

          home_same : (k j : ℕ) → item_at k j ≢ g.chain.tail → home_in after k j ≡ home_in g k j
          home_same k j ne = home_stays te he g here a r refl g.out k j (some_other refl ne) refl

          home : (j : ℕ) → j < BLOCK_SLOTS → length (block bs (b + 2)).homes ≡ BLOCK_SLOTS → get_elem? (block bs (b + 2)).homes j ≡ some (home_in g b j) → get_elem? (set (block bs (b + 2)).homes i away) j ≡ some (home_in after b j)
          home j j_lt long was = elim (eqb_tells j i) [
            | inl t ↦ rw (t.1) (set_here (block bs (b + 2)).homes i away (omega (arith, is.low, long)) ∙ ap (λ w. some (home_of w (r.readers (item_at b i)) (g.out (item_at b i)))) (sym (ap r.writers at ∙ writes_next)))
            | inr t ↦ set_else (block bs (b + 2)).homes i j away t.1 ∙ (was ∙ ap (λ h. some h) (sym (home_same b j (λ z. t.1 (omega (arith, at, z))))))
          ]

          there : (k : ℕ) → k < g.chain.blocks → IsThere after k (block cs (k + 2))
          there k lt = elim (eqb_tells k b) [
            | inl t ↦ subst (λ n. IsThere after n (block cs (n + 2))) (sym t.1)
                (subst (λ (y : Block A). IsThere after b y) (sym (home_here ws (b + 2) i away (omega (arith, made_long op 0 bs, codes.size, named.0)) ∙ ap (λ (y : Block A). homed y i away) else_word))
                (there_with g after b (block bs (b + 2)) (set (block bs (b + 2)).homes i away) (step_block here a ok b named.0 (none_other refl)) (length-set (block bs (b + 2)).homes i away) home (codes.there b named.0)))
            | inr t ↦ subst (λ (y : Block A). IsThere after k y) (sym (home_else ws (b + 2) i away (k + 2) (λ z. t.1 (omega arith)) ∙ made_else op 0 bs (k + 2) (λ z. absurd (omega arith))))
                (block_stays te he g here a r refl g.out ok bs codes k lt (none_other refl) (λ j j_lt. home_same k j (λ z. t.1 (omega (arith, at, z, j_lt)))))
          ]
