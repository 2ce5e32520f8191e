-- Each step of a call on a shared chain keeps the rule of the web, and tells its seat how the call goes on: what it finds in the blocks and makes of them, and the
-- laws of the chain, say so.
use Rattle.std.proofs.Common.{ℕ, ◌≡◌, ◌||◌, not, Bool, Option, Some, None, List, ◌∷◌, sym, ap, subst, set}
use mathlib.Core.Option.{some}
use lib.ListN.{get_elem?}
use denote.RawPtr.{Ptr}
use Rattle.queue_laws.specs.Common.{Vocabulary.Call, Vocabulary.Effect, Vocabulary.Kind, Vocabulary.Answer, Vocabulary.Local, Vocabulary.Next, Effects.Leads, Effects.with_effect, Effects.MayFront}
use Rattle.queue_laws.specs.Chain.{ChainCells.Chain, ChainCells.queue_of, ChainAt.At, ChainAnswers.Answers, ChainAfter.chain_of, ChainAfter.carried_of, ChainAfter.after_of}
use Rattle.queue_steps.specs.{Next.CanNext, Next.next_of, State.State as Queue, ChainNext.FitsChain, ChainNext.chain_next}
use Rattle.queue_laws.proofs.Chain.{ChainRight.NextOkSpares, ChainRight.Right, ChainRight.step_right, ChainStep.is_chain}
use Rattle.mem_blocks.specs.{Web.Block, Web.State, Web.Sitter, Web.word_of, Web.viewed, declared.hub.TheConstants.PARTIES, Web.KeepsRule, Web.blocks_after, Web.sitter_after}
use Rattle.shared_parties.specs.{declared.known.CallState.CallState, declared.known.InCall.InCall, Calling.Standing, Calling.NextOk, Calling.handed_by, Calling.stand_of, CallsAt.CallsAt}
use Rattle.shared_parties.proofs.{Callings.grown, CallSteps.Stepping, CallSteps.call_step}
use Rattle.shared_chain.specs.{ChainCalls.OutChain, ChainCalls.chain_calls, Rule.Rule, Steps.HoldsFor, Steps.chain_then, Steps.SlotsFor, Steps.MayGoOn, Steps.After, Steps.Follows}
use Rattle.shared_chain.proofs.{CallLaws.chain_call_laws, Steps.Carrying.carried_is, Steps.MaySteps.may_go_on, Frames.Leaves.Leaves}

can_next : (l : Local ℕ) (a : Answer ℕ) → l ≡ Local.Chain (chain_of l) → FitsChain (chain_of l) a → CanNext Kind.Unbounded l a × (next_of Kind.Unbounded l a ≡ chain_next (chain_of l) a)
can_next l a is fits = (subst (λ z. CanNext Kind.Unbounded z a) (sym is) fits, ap (λ z. next_of Kind.Unbounded z a) is)

module _ {A : Type 0} where
  -- a chain makes no front
  no_front : (c r : Chain A) (e : Option (Effect A)) (was : Bool) → Leads (queue_of c) e (queue_of r) → MayFront e was
  no_front c r (Some (Effect.Front old v)) was leads = absurd (let z = ap (λ (q : Queue A). q.coming) leads.1 in cc)
  no_front c r e was leads = tt

  -- a call that goes on stands, one that ends has no part in the chain
  goes_well : (g : OutChain A) (who : ℕ) (ms : List (Queue A)) (was : Bool) (n : Next ℕ) (v : Option A) (k : Call A) (es : List (Effect A)) → NextOkSpares g.chain who ms n v k es → SlotsFor g who n → NextOk chain_calls g who ms was n v k es
  goes_well g who ms was (Next.Step l t o) v k es ends slots = (ends.0, ends.1, slots)
  goes_well g who ms was (Next.Reply x spare) v k es ends slots = ((ends.0, ends.1), tt, ends.2)

  -- what a seat holds has no part in its view
  holds_viewed : (w : CallState A) (xs : List (ℕ × Option A)) (n : Next ℕ) (m : Sitter A (CallState A)) → HoldsFor xs n m → HoldsFor xs n (viewed w m)
  holds_viewed w xs (Next.Step l t o) m h = h
  holds_viewed w xs (Next.Reply x None) m h = h
  holds_viewed w xs (Next.Reply x (Some f)) m h = h

  module _ (te he : Ptr) where
    -- a step keeps the rule, and tells how the call goes on
    pub follows : (s : State A (CallState A)) (r : Rule te he s) (id : ℕ) (u : CallState A) (c : InCall A) → get_elem? s.views id ≡ some u → (st : Standing chain_calls r.cells r.history id u.known c)
        → (a : Answer ℕ) (cs : List (Block A)) (m : Sitter A (CallState A))
        → Answers r.cells.chain c.op a → (left : Leaves te he r.cells id cs m (after_of st.here.0 a) (chain_next (chain_of c.local) a)) → word_of (blocks_after cs left.acts) 0 PARTIES ≡ word_of s.blocks 0 PARTIES
        → KeepsRule (Rule te he) s cs id m (Follows c a)
    follows s r id u c at st a cs m found left count = (
      stepping.view,
      left.acts,
      left.mays,
      record { cells = after; history = grown r.history right.e; codes = left.codes; all = subst (λ (n : ℕ). CallsAt chain_calls after (grown r.history right.e) n (set s.views id stepping.view)) (sym count) stepping.all },
      (
        can.0,
        subst (λ (n : Next ℕ). After c v n (viewed stepping.view (sitter_after cs m left.acts))) (sym can.1) (left.lends, stepping.tells, holds_viewed stepping.view left.lends todo (sitter_after cs m left.acts) left.holds, may),
      ),
    )
      where
        here : At r.cells.chain id st.ms (stand_of c)
        here = st.here.0

        right : Right r.cells.chain (after_of here a) id st.ms (chain_of c.local) (carried_of here) c.call c.effects a
        right = step_right here a r.all.ok found st.here.1

        todo : Next ℕ
        todo = chain_next (chain_of c.local) a

        after : OutChain A
        after = record { chain = chain_then here a; out = left.out }

        can : CanNext Kind.Unbounded c.local a × (next_of Kind.Unbounded c.local a ≡ todo)
        can = can_next c.local a (is_chain here) right.goes_on

        v : Option A
        v = handed_by c.touch c.carried c.lends

        goes : NextOk chain_calls after id (queue_of after.chain ∷ st.ms) (st.was || not (queue_of after.chain).closed) todo v c.call (with_effect c.effects right.e)
        goes = subst (λ (z : Option A). NextOk chain_calls after id (queue_of after.chain ∷ st.ms) (st.was || not (queue_of after.chain).closed) todo z c.call (with_effect c.effects right.e)) (carried_is r.cells id c.lends here st.here.2 st.lent)
            (goes_well after id (queue_of after.chain ∷ st.ms) (st.was || not (queue_of after.chain).closed) todo (carried_of here) c.call (with_effect c.effects right.e) right.ends left.slots)

        may : MayGoOn v left.lends todo
        may = subst (λ (z : Option A). MayGoOn z left.lends todo) (carried_is r.cells id c.lends here st.here.2 st.lent)
            (may_go_on after id (queue_of after.chain ∷ st.ms) todo (carried_of here) c.call (with_effect c.effects right.e) left.lends right.ok right.ends left.slots left.lent)

        stepping : Stepping chain_calls chain_call_laws after (grown r.history right.e) (word_of s.blocks 0 PARTIES) s.views id c v left.lends todo
        stepping = call_step chain_calls chain_call_laws r.cells after r.history (word_of s.blocks 0 PARTIES) s.views id u c right.e v left.lends todo r.all at st right.ok right.makes
            (right.passes, λ j n ne e. left.others j ne n e) (no_front r.cells.chain after.chain right.e st.was right.makes) left.lent goes
