-- The steps that lay a block: installing the first one, and laying the next one behind the pushers' block.
use Rattle.queue_laws.proofs.{Chain.ChainEnds.ends_made, Common.Puts.put_ok, Chain.ChainSlots.IsFresh, Chain.ChainSlots.fresh_state, Chain.ChainSlots.install_fresh, Chain.ChainSlots.block_altered, Chain.ChainEnds.ends_of, Chain.ChainSlots.item_moved, Chain.ChainEnds.step_ends}
use Rattle.std.proofs.Common.{ℕ, ◌+◌, ◌<◌, ◌≤◌, ◌≡◌, ◌∙◌, inl, inr, zero, suc, Option, None, List, [], ◌∷◌, ◌++◌, length, replicate, refl, sym, ap, subst, arith}
use Rattle.std.proofs.lemmas.{Bool.Decides.eqb_tells, List.get_or_append_left, List.get_or_push, List.length_push, List.get_or-replicate, List.length-replicate}
use Rattle.atomic_table.proofs.Lists.{at_index}
use mathlib.Core.Option.{some}
use denote.RawPtr.{Ptr, Testable}
use Rattle.queue_laws.specs.{Common.Vocabulary.Op, Common.Vocabulary.Answer, Common.Vocabulary.Local, Common.Vocabulary.PushKind, Common.Vocabulary.BLOCK_SLOTS, Common.Puts.put, Chain.ChainFacts.open_tail_of, Chain.ChainFacts.SawTail, Chain.ChainAt.installing, Chain.ChainAfter.if_installed, Chain.ChainAnswers.last_of, Chain.ChainAnswers.IsState, Chain.ChainAt.At, Common.Stand.Stand, Chain.ChainCells.Use, Chain.ChainAfter.after_of, Common.Stand.brings}
use Rattle.queue_steps.specs.{declared.steps.chain.ChainLocal.ChainLocal as chain, State.State, ChainNext.chain_next}
use Rattle.queue_laws.specs.Chain.ChainCells.{Before, GivenUp, Unused, Spare, Chained, Chain, item_at, ChainOk, HoldsOnly, Nothing}
use Rattle.queue_laws.specs.Chain.ChainTransitions as moves
use Rattle.mem_blocks.specs.Web.{Block, Home, Sitter, lays, block, vacant, with_next, if_unset}
use Rattle.shared_parties.specs.declared.known.CallState.{CallState}
use Rattle.shared_chain.specs.{Spots.spot, ChainCalls.OutChain, ChainCalls.SlotsAs, ChainCalls.ChainLent, Rule.home_of, Rule.plain_state, Rule.lead_of, Rule.IsThere, Rule.IsUsed, Rule.Codes, Steps.fresh_at, Steps.HoldsBy, Steps.blocks_made, Steps.BlockStep}
use Rattle.shared_chain.proofs.Frames.{Blocks.next_same, Blocks.slots_are, Ends.EndsAre, Ends.OnEnd, Ends.ends_as, Ends.ends_coded, Ends.made_long, Ends.made_else, Leaves.Leaves, Leaves.acts_first, Leaves.keeps, Leaves.op_step, Homes.none_other, Stepping.home_stays}
use Rattle.shared_chain.proofs.Frames.Stepping.{block_stays}

module _ {A : Type 0} where
  -- a block as it was granted stands for the chain's next one
  fresh_there : (r : OutChain A) (b f : ℕ) → IsFresh r.chain b f → IsThere r b (fresh_at (spot f))
  fresh_there r b f fresh = (
    ap spot (sym fresh.name),
    inr (
      (λ e. let z : Before ≡ GivenUp = sym fresh.walk ∙ e in cc),
      refl,
      slots_are (length-replicate {A = ℕ} BLOCK_SLOTS 0) (length-replicate {A = Home A} BLOCK_SLOTS vacant) (λ i low. record {
        state = λ ne. subst (λ x. IsState r.chain b i x) (sym (get_or-replicate BLOCK_SLOTS i 0 0 low)) (fresh_state i fresh);
        plain = λ e. get_or-replicate BLOCK_SLOTS i 0 0 low ∙ (λ j. plain_state (sym (fresh.free i).0 j) (sym (fresh.free i).1 j));
        slot = at_index (replicate BLOCK_SLOTS vacant) i vacant (let z = length-replicate {A = Home A} BLOCK_SLOTS vacant in omega arith) (sym (get_or-replicate BLOCK_SLOTS i vacant vacant low))
            ∙ (λ j. some (home_of (sym (fresh.free i).0 j) (sym (fresh.free i).1 j) (r.out (item_at b i))));
      }) (ap lead_of (sym fresh.link)),
    ),
  )

  module _ (te he : Ptr) (g : OutChain A) (who : ℕ) (bs : List (Block A)) where
    -- A spare that becomes the chain's next block, by a step whose operation is on the tail's end
    module _ {ms : List (State A)} {k : Stand A} (here : At g.chain who ms k) (a : Answer ℕ) (r : Chain A) (leads : after_of here a ≡ r) (on : OnEnd k.op 0) (same : (block_altered here ≡ None) × (item_moved here ≡ None))
        (f : ℕ) (fresh : IsFresh r g.chain.blocks f)
        (grown : (r.blocks ≡ g.chain.blocks + 1) × (r.uses ≡ put g.chain.uses f (Chained g.chain.blocks))) (spare : g.chain.uses f ≡ Spare who) (ok : ChainOk g.chain) (codes : Codes te he g bs) where
      abbrev more : List (Block A)
      more = blocks_made k.op 0 bs ++ fresh_at (spot f) ∷ []

      abbrev after : OutChain A
      after = record { chain = r; out = g.out }

      made_before : (j : ℕ) → j < length bs → block more j ≡ block (blocks_made k.op 0 bs) j
      made_before j lt = get_or_append_left (blocks_made k.op 0 bs) (fresh_at (spot f) ∷ []) _ j (omega (arith, lt, made_long k.op 0 bs))

      pub codes_laid : Codes te he (record { chain = r; out = g.out }) (blocks_made k.op 0 bs ++ fresh_at (spot f) ∷ [])
      codes_laid =
          let size = codes.size in
          let coded = ends_as te he (ends_made k.op (ends_of g.chain)) (blocks_made k.op 0 bs) more (ends_coded te he (ends_of g.chain) bs (omega arith) (codes.tail, codes.head) k.op 0 on) (λ j two. made_before j (omega arith)) in
          let ends = subst (λ e. EndsAre te he e more) (sym (step_ends here a ok) ∙ ap (λ (s : Chain A). ends_of s) leads) coded in
          record {
            tail = ends.0;
            head = ends.1;
            size = length_push (blocks_made k.op 0 bs) (fresh_at (spot f)) ∙ (omega (arith, made_long k.op 0 bs, grown.0));
            there = λ b lt. elim (eqb_tells b g.chain.blocks) [ inl t ↦ laid_there b t.1 | inr t ↦ other_there b (omega (arith, lt, grown.0, t.1)) ];
            tested = λ j used. put_ok g.chain.uses f j (Chained g.chain.blocks) (λ i u. IsUsed u → Testable (spot i)) (λ z. codes.tested f (rw spare tt)) (λ ne z. codes.tested j z) (subst (λ (u : ℕ → Use). IsUsed (u j)) grown.1 used);
            fresh = (
              codes.fresh.0,
              λ j le. ap (λ (u : ℕ → Use). u j) grown.1
                  ∙ put_ok g.chain.uses f j (Chained g.chain.blocks) (λ i u. codes.fresh.0 ≤ i → u ≡ Unused) (λ z. absurd (let y : Spare who ≡ Unused = sym spare ∙ codes.fresh.1 f z in cc)) (λ ne z. codes.fresh.1 j z) le,
            );
          }
        where
          laid_there : (b : ℕ) → b ≡ g.chain.blocks → IsThere after b (block more (b + 2))
          laid_there b e = subst (λ i. IsThere after i (block more (i + 2))) (sym e)
              (subst (λ (x : Block A). IsThere after g.chain.blocks x) (sym (get_or_push (blocks_made k.op 0 bs) (fresh_at (spot f)) _ (g.chain.blocks + 2) (made_long k.op 0 bs ∙ codes.size))) (fresh_there after g.chain.blocks f fresh))

          other_there : (b : ℕ) → b < g.chain.blocks → IsThere after b (block more (b + 2))
          other_there b lt = subst (λ (x : Block A). IsThere after b x) (sym (made_before (b + 2) (omega (arith, lt, codes.size)) ∙ made_else k.op 0 bs (b + 2) (λ e. absurd (omega arith))))
              (block_stays te he g here a r leads g.out ok bs codes b lt (none_other same.0) (λ i low. home_stays te he g here a r leads g.out b i (none_other same.1) refl))

    module _ (m : Sitter A (CallState A)) (ms : List (State A)) where
      -- the install of the first block: where another was there before, this one is kept
      pub step_installing : (d : PushKind) (v : A) (f : ℕ) (none : HoldsOnly g.chain who Nothing) (saw : SawTail g.chain 0 ms) (mine : g.chain.uses f ≡ Spare who)
          → ChainOk g.chain → Codes te he g bs → SlotsAs g who (Local.Chain (chain.Installing d (open_tail_of 0) f)) → (xs : List (ℕ × Option A)) → ChainLent g who xs
          → HoldsBy (Local.Chain (chain.Installing d (open_tail_of 0) f)) (Op.Install f) xs m → BlockStep te he g who bs m {ms = ms} (installing d v f none saw mine)
      step_installing d v f none saw mine ok codes slots xs lent holds = op_step here 0 codes.tail.lives (λ e. refl) codes.tail.next refl (go g.chain.blocks refl)
        where
          here : At g.chain who ms (brings (Local.Chain (chain.Installing d (open_tail_of 0) f)) (Op.Install f) d v)
          here = installing d v f none saw mine

          go : (n : ℕ) → g.chain.blocks ≡ n → Leaves te he g who (blocks_made (Op.Install f) 0 bs) m (if_installed g.chain who f n) (chain_next (chain.Installing d (open_tail_of 0) f) (Answer.Linked (last_of g.chain.names n)))
          go zero e = acts_first (lays (fresh_at (spot f))) holds.1
              (keeps (codes_laid here (Answer.Linked (last_of g.chain.names g.chain.blocks)) (moves.installed g.chain who f) (ap (if_installed g.chain who f) e) tt (refl, refl)
              f (install_fresh g.chain who f ok) (refl, refl) mine ok codes) slots xs lent (holds.0, refl))
          go (suc b) e =
              let leads : (block bs 0).next ≡ spot (g.chain.names b) = codes.tail.next ∙ ap (λ i. lead_of (last_of g.chain.names i)) e in
              let kept : blocks_made (Op.Install f) 0 bs ≡ bs = ap (λ q. with_next bs 0 (if_unset (spot f) q)) leads ∙ (ap (λ q. with_next bs 0 q) (sym leads) ∙ next_same bs 0) in
              keeps (subst (λ (ys : List (Block A)). Codes te he g ys) (sym kept) codes) slots xs lent holds
