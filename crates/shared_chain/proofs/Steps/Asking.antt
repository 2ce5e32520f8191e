-- The question for a block is no step on a block: a load of the tail's word makes it known to the web that a block was granted, which has a name from then on, or refused.
use Rattle.std.proofs.Common.{lit<}
use Rattle.shared_chain.proofs.Frames.{Ends.looks_at, Spots.named_past, Blocks.codes_renamed, Leaves.Leaves, Leaves.keeps, Leaves.idles_free, Leaves.none_holds}
use Rattle.std.proofs.Common.{ℕ, ◌≡◌, ◌∙◌, Option, Some, None, List, sym, ap, subst, arith}
use mathlib.Core.Option.{some}
use lib.ListN.{get_elem?}
use denote.RawPtr.{Ptr, block_ptr, null_ptr, InBlock, Testable}
use Rattle.queue_laws.specs.{Common.Vocabulary.Op, Common.Vocabulary.Answer, Common.Stand.Stand, Chain.ChainAt.At, Chain.ChainAt.asking, Chain.ChainAnswers.Answers, Chain.ChainAfter.after_of, Chain.ChainAfter.chain_of, Chain.ChainCells.Spare, Chain.ChainTransitions.renamed, Chain.ChainFacts.open_tail_of}
use Rattle.queue_steps.specs.{State.State as Queue, ChainNext.chain_next, declared.steps.chain.ChainLocal.ChainLocal as chain, ChainNext.granted as goes_granted}
use Rattle.mem_blocks.specs.{Web.Block, Web.State, Web.Sitter, Web.word_of, Web.Allows, declared.hub.TheConstants.TAIL, declared.hub.TheConstants.PARTIES}
use Rattle.shared_parties.{specs.declared.known.CallState.CallState, specs.declared.known.InCall.InCall, specs.Calling.Standing, specs.CallsAt.Ready, proofs.CallSteps.stands_at}
use Rattle.shared_chain.specs.{ChainCalls.OutChain, ChainCalls.SlotsAs, ChainCalls.ChainLent, ChainCalls.chain_calls, Rule.Codes, Rule.Rule, Spots.spot, Steps.fresh_at, Steps.hand_by, Steps.Follows, Steps.FollowsGrant}
use Rattle.shared_chain.proofs.{CallLaws.chain_call_laws, CallLaws.OnBlocks, CallLaws.chain_opens, Steps.Allowing.follows, Frames.Leaves.nothing_lent, Frames.Leaves.Leaves, Frames.Tested.acts_word, Frames.Leaves.idles_free}
use Rattle.std.proofs.Common.{ℕ, ◌+◌, ◌≤◌, ◌≡◌, ◌∙◌, inl, inr, Option, Some, None, List, refl, sym, ap, subst, arith}
use denote.RawPtr.{Ptr, block_ptr, Testable}
use Rattle.queue_laws.proofs.Common.Puts.{put_ok, put_other}
use Rattle.mem_blocks.specs.Web.{Block, Sitter}
use Rattle.shared_parties.specs.declared.known.CallState.{CallState}
use Rattle.shared_chain.specs.{Spots.spot, ChainCalls.OutChain, ChainCalls.SlotsAs, ChainCalls.ChainLent, Rule.IsUsed, Rule.Codes, Steps.fresh_at, Steps.hand_by}

module _ {A : Type 0} (te he : Ptr) where
  -- a name that none had is that of a spare
  codes_spared : (g : OutChain A) (bs : List (Block A)) (who f : ℕ) (codes : Codes te he g bs) → codes.fresh.0 ≤ f → Testable (spot f) → Codes te he (record { chain = renamed g.chain f (Spare who); out = g.out }) bs
  codes_spared g bs who f codes past tests =
      codes_renamed te he g f (Spare who) bs codes (λ j. put_ok g.chain.uses f j (Spare who) (λ i u. IsUsed u → Testable (spot i)) (λ used. tests) (λ ne used. codes.tested j used))
      (f + 1, λ j le. put_other g.chain.uses f j (Spare who) (λ e. absurd (omega arith)) ∙ codes.fresh.1 j (omega arith))

  -- where the call asks for a block, one that lies at p and that the seat carries is its spare, with such a name
  granted : (g : OutChain A) (who : ℕ) (bs : List (Block A)) (m : Sitter A (CallState A)) {ms : List (Queue A)} {k : Stand A} (here : At g.chain who ms k)
      → k.op ≡ Op.Ask → Codes te he g bs → SlotsAs g who k.local → (xs : List (ℕ × Option A)) → ChainLent g who xs → m.hand ≡ None → (b i : ℕ) → Testable (block_ptr b i) → m.spare ≡ Some (fresh_at (block_ptr b i))
      → (f : ℕ) × (spot f ≡ block_ptr b i) × Answers g.chain k.op (Answer.Granted f) × Leaves te he g who bs m (after_of here (Answer.Granted f)) (chain_next (chain_of k.local) (Answer.Granted f))
  granted g who bs m (asking d v q lead none saw asked) is codes slots xs lent hand b i tests spare =
      let h = named_past codes.fresh.0 b i in
      (h.0, h.2, inr (h.0, refl, codes.fresh.1 h.0 h.1), go lead h.0 (codes_spared g bs who h.0 codes h.1 (subst Testable (sym h.2) tests)) (spare ∙ ap (λ p. Some (fresh_at p)) (sym h.2)))
    where
      go : (lead : Option ℕ) (f : ℕ) → Codes te he (record { chain = renamed g.chain f (Spare who); out = g.out }) bs → m.spare ≡ Some (fresh_at (spot f)) → Leaves te he g who bs m (renamed g.chain f (Spare who)) (goes_granted d (open_tail_of q) lead f)
      go None f coded carries = keeps coded slots xs lent (hand ∙ sym (ap (λ ys. hand_by 0 ys) (nothing_lent g who xs none lent)), carries)
      go (Some name) f coded carries = keeps coded slots xs lent (hand ∙ sym (ap (λ ys. hand_by 0 ys) (nothing_lent g who xs none lent)), carries)
  granted g who bs m here is codes slots xs lent hand at i tests spare2 = absurd (cc)

  -- and where it is refused the call ends
  refused : (g : OutChain A) (who : ℕ) (bs : List (Block A)) (m : Sitter A (CallState A)) {ms : List (Queue A)} {k : Stand A} (here : At g.chain who ms k)
      → k.op ≡ Op.Ask → Codes te he g bs → m.hand ≡ None → m.spare ≡ None
      → Answers g.chain k.op Answer.Refused × Leaves te he g who bs m (after_of here Answer.Refused) (chain_next (chain_of k.local) Answer.Refused)
  refused g who bs m (asking d v q lead none saw asked) is codes hand spare = (inl refl, idles_free codes none (none_holds (chain_next (chain.Asking d (open_tail_of q) lead) Answer.Refused) None m refl (hand, spare)))
  refused g who bs m here is codes hand spare2 = absurd (cc)

  module _ (id : ℕ) (m : Sitter A (CallState A)) (c : InCall A) where
    standing : Ready chain_calls m.view c → (s : State A (CallState A)) (r : Rule te he s) → get_elem? s.views id ≡ some m.view → Standing chain_calls r.cells r.history id m.view.known c
    standing ready s r at = stands_at chain_calls chain_call_laws OnBlocks r.cells r.history (word_of s.blocks 0 PARTIES) s.views r.all id m.view c (chain_opens c.call) at ready

    -- the load of the tail's word after a grant, and after a refusal
    pub allows_grant : (w p : Ptr) → te ≡ w → Ready chain_calls m.view c → m.hand ≡ None → m.spare ≡ Some (fresh_at p) → InBlock p × Testable p → c.op ≡ Op.Ask → Allows (Rule te he) id m w TAIL (λ n. n) (λ n q. FollowsGrant c p q)
    allows_grant w (block_ptr b i) is ready hand spare lies asks = looks_at te he id m w TAIL (λ q. FollowsGrant c (block_ptr b i) q) is (lit< tt) (λ s r at.
        let st = standing ready s r at in
        let g = granted r.cells id s.blocks m st.here.0 asks r.codes st.here.2 c.lends st.lent hand b i lies.1 spare in
        let f = follows te he s r id m.view c at st (Answer.Granted g.0) s.blocks m g.2 g.3 (acts_word s.blocks g.3.acts 0 PARTIES (omega (arith, r.codes.size))) in
        (f.0, f.1, f.2, f.3, (g.0, g.1, f.4)))
    allows_grant w null_ptr is ready hand spare lies asks = absurd lies.0

    pub allows_refusal : (w : Ptr) → te ≡ w → Ready chain_calls m.view c → m.hand ≡ None → m.spare ≡ None → c.op ≡ Op.Ask → Allows (Rule te he) id m w TAIL (λ n. n) (λ n q. Follows c Answer.Refused q)
    allows_refusal w is ready hand spare asks = looks_at te he id m w TAIL (λ q. Follows c Answer.Refused q) is (lit< tt) (λ s r at.
        let st = standing ready s r at in
        let f = refused r.cells id s.blocks m st.here.0 asks r.codes hand spare in
        follows te he s r id m.view c at st Answer.Refused s.blocks m f.0 f.1 (acts_word s.blocks f.1.acts 0 PARTIES (omega (arith, r.codes.size))))
