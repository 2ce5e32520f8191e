-- The store of the link from the block that was the last to the one behind it.
use Rattle.queue_laws.specs.{Chain.ChainAt.has_appended, Common.Vocabulary.Link, Common.Vocabulary.Op, Common.Vocabulary.Touch, Common.Vocabulary.Local, Common.Vocabulary.PushKind, Common.Vocabulary.BLOCK_SLOTS, Chain.ChainFacts.open_tail_of, Chain.ChainFacts.IsNamed, Chain.ChainFacts.Claimed, Chain.ChainTransitions.chained, Chain.ChainAt.Either, Chain.ChainAt.chaining, Chain.ChainAnswers.linked_of, Chain.ChainCells.Linking, Chain.ChainCells.Linked, Chain.ChainCells.ChainOk, Chain.ChainCells.Write, Chain.ChainCells.Next, Chain.ChainCells.HoldsOnly, Common.Vocabulary.Answer, Chain.ChainAt.At, Chain.ChainCells.GivenUp}
use Rattle.std.proofs.Common.{ℕ, ◌+◌, ◌/◌, ◌≡◌, ◌≢◌, ◌∙◌, inl, inr, Option, List, refl, sym, ap, subst, arith}
use Rattle.std.proofs.lemmas.Bool.Decides.{eqb_tells}
use denote.RawPtr.{Ptr}
use Rattle.queue_steps.specs.{declared.steps.chain.ChainLocal.ChainLocal as chain, State.State}
use Rattle.queue_laws.proofs.{Common.Puts.put_same, Chain.ChainReads.not_given_up, Chain.ChainStates.unread_item, Chain.ChainSlots.SameSlot, Chain.ChainEnds.ends_of}
use Rattle.mem_blocks.specs.Web.{Block, Sitter, block, linked, with_next, Lives}
use Rattle.shared_parties.specs.declared.known.CallState.{CallState}
use Rattle.shared_chain.specs.{Spots.spot, ChainCalls.OutChain, ChainCalls.SlotsAs, ChainCalls.ChainLent, Rule.lead_of, Rule.IsThere, Rule.Codes, Steps.HoldsBy, Steps.BlockStep}
use Rattle.shared_chain.proofs.Frames.{Blocks.next_here, Blocks.next_else, Blocks.slot_is, Blocks.slot_same, Blocks.slots_are, Blocks.named_alive, Ends.ends_as, Ends.made_long, Stepping.block_stays, Stepping.codes_made, Leaves.keeps, Leaves.op_step, Homes.some_other}
use Rattle.shared_chain.specs.Rule.{BlockIs}

module _ {A : Type 0} (te he : Ptr) (g : OutChain A) (who : ℕ) (bs : List (Block A)) (m : Sitter A (CallState A)) (ms : List (State A)) where
  pub step_chaining : (d : PushKind) (v : A) (n name f : ℕ) (parts : HoldsOnly g.chain who (Either (Write n) (Next (n / BLOCK_SLOTS)))) (claims : Claimed g.chain who n v name)
      (links : g.chain.links (n / BLOCK_SLOTS) ≡ Linking who) (named : IsNamed g.chain (n / BLOCK_SLOTS + 1) f)
      → ChainOk g.chain → Codes te he g bs → SlotsAs g who (Local.Chain (chain.Chaining d (open_tail_of n) name f)) → (xs : List (ℕ × Option A)) → ChainLent g who xs
      → HoldsBy (Local.Chain (chain.Chaining d (open_tail_of n) name f)) (Op.StoreLink (Link.Next name) f) xs m → BlockStep te he g who bs m {ms = ms} (chaining d v n name f parts claims links named)
  step_chaining d v n name f parts claims links named ok codes slots xs lent holds =
      op_step here (b + 2) alive.0 (λ e. refl) tt refl (keeps (codes_made te he g here Answer.Done r.chain refl g.out ok bs codes refl cs (made_long (Op.StoreLink (Link.Next name) f) (b + 2) bs)
      (ends_as te he (ends_of g.chain) bs cs (codes.tail, codes.head) (λ j two. next_else bs (b + 2) (spot f) j (λ e. absurd (omega (arith, e, two))))) (λ j lt. elim (eqb_tells j b) [
        | inl t ↦ subst (λ i. IsThere r i (block cs (i + 2))) (sym t.1) (subst (λ (x : Block A). IsThere r b x) (sym (next_here bs (b + 2) (spot f) (omega (arith, codes.size, claims.named.0)))) linked_there)
        | inr t ↦ subst (λ (x : Block A). IsThere r j x) (sym (next_else bs (b + 2) (spot f) (j + 2) (λ e. t.1 (omega arith))))
            (block_stays te he g here Answer.Done r.chain refl g.out ok bs codes j lt (some_other refl t.1) (λ i low. refl))
      ])) slots xs lent holds)
    where
      b : ℕ
      b = n / BLOCK_SLOTS

      here : At g.chain who ms (has_appended (chain.Chaining d (open_tail_of n) name f) Touch.Nothing (Op.StoreLink (Link.Next name) f) d v)
      here = chaining d v n name f parts claims links named

      r : OutChain A
      r = record { chain = chained g.chain b; out = g.out }

      cs : List (Block A)
      cs = with_next bs (b + 2) (spot f)

      on : g.chain.walks b ≢ GivenUp
      on = not_given_up g.chain n ok (unread_item g.chain n who v ok claims.mine)

      alive : Lives bs (b + 2) (spot name) × BlockIs g b (block bs (b + 2))
      alive = named_alive codes claims.named on

      leads : spot f ≡ lead_of (linked_of (r.chain.links b) (r.chain.names (b + 1)))
      leads = ap spot named.1 ∙ sym (ap (λ l. lead_of (linked_of l (g.chain.names (b + 1)))) (put_same g.chain.links b Linked))

      same : (i : ℕ) → SameSlot g.chain r.chain b i
      same i = record { wrote = refl; done = refl; waits = refl }

      -- the block with another link
      linked_there : IsThere r b (linked (block bs (b + 2)) (spot f))
      linked_there = (
        alive.0.1 ∙ ap spot claims.named.1,
        inr (on, alive.0.0, slots_are alive.1.words alive.1.homes (λ i low. let is = slot_is alive.1 i low in slot_same (same i) (λ e. e) is is.slot) leads),
      )
