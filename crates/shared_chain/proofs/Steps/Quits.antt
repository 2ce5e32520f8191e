-- A call on a chain that has had no effect is given up by a load of the tail's word: the rule stays, the seat is at nothing, and its spare is no block's name any more.
use Rattle.std.proofs.Common.{lit<}
use Rattle.shared_chain.proofs.{Frames.Ends.looks_at, Frames.Blocks.codes_left, CallLaws.chain_call_laws, Frames.Leaves.nothing_lent}
use Rattle.std.proofs.Common.{◌≡◌, ◌≢◌, ℕ, Option, Some, None, List, [], set, refl, ap, sym, ◌∙◌, subst}
use mathlib.Core.{Option.some, List.IsPrefix}
use lib.ListN.{get_elem?}
use denote.RawPtr.{Ptr}
use Rattle.atomic_table.proofs.Lists.{set_again}
use Rattle.queue_laws.specs.Common.Vocabulary.{Reply, Effect, Next}
use Rattle.queue_laws.specs.Chain.{ChainCells.Chain, ChainCells.queue_of, ChainCells.ChainOk, ChainCells.HoldsOnly, ChainCells.Nothing, ChainTransitions.given_up, ChainPasses.spare_in}
use Rattle.queue_steps.specs.Kinds.{call_value}
use Rattle.queue_laws.proofs.Chain.{ChainEarly.early, ChainEarly.unbound, ChainStepOk.GivesUp, ChainGiven.given_ok, ChainGiven.passes_given, ChainGiven.holds_given, ChainGiven.spares_given, ChainPasses.passes_same}
use Rattle.mem_blocks.specs.{Web.State, Web.Sitter, Web.sitter, Web.word_of, Web.Allows, declared.hub.TheConstants.PARTIES}
use Rattle.shared_parties.specs.{declared.known.CallState.CallState, declared.known.InCall.InCall, declared.known.Known.Known, declared.known.Work.Work as work, CallStates.idle, Calling.Standing, Quitting.its_call}
use Rattle.shared_parties.proofs.{Callings.others_stay, Quits.quit, Quits.quits}
use Rattle.shared_chain.specs.{ChainCalls.OutChain, ChainCalls.PassesOut, ChainCalls.chain_calls, Rule.Rule, Steps.slot_block, Steps.hand_by, Quitting.MayQuit, Quitting.HasLeft, Quitting.ShowsPlace}

-- a block that is given up is no part of the queue
queue_given : {A : Type 0} (c : Chain A) (spare : Option ℕ) → queue_of (given_up c spare) ≡ queue_of c
queue_given c None = refl
queue_given c (Some f) = refl

module _ {T : Type 0} where
  module _ (te he : Ptr) (id : ℕ) (m : Sitter T (CallState T)) (may : MayQuit m) where
    leaves : (s : State T (CallState T)) (r : Rule te he s) → get_elem? s.views id ≡ some m.view → Rule te he record { blocks = s.blocks; views = set s.views id (idle m.view.known) } × HasLeft m (sitter (idle m.view.known) m.hand m.spare)
    leaves s r at = (
      record {
        cells = after;
        history = r.history;
        codes = codes_left te he g.chain g.out s.blocks (Next.Reply (Reply.Capacity None) spare) r.codes;
        all = quits chain_calls g r.history (word_of s.blocks 0 PARTIES) s.views id m.view r.all at after ok same others (λ j ne idle. chain_call_laws.idle_stays g after id j ne passes idle)
            (holds_given g.chain id spare Nothing e.1, spares_given g.chain id spare st.here.1);
      },
      (
        quit chain_calls g r.history (word_of s.blocks 0 PARTIES) s.views id m.view r.all at c may.0 e.0,
        may.2.0 ∙ ap (hand_by (slot_block c.local c.op)) (nothing_lent g id c.lends e.1 st.lent),
        refl,
        e.3,
      ),
    )
      where
        c : InCall T
        c = its_call m.view

        g : OutChain T
        g = r.cells

        spare : Option ℕ
        spare = spare_in c.local

        after : OutChain T
        after = record { chain = given_up g.chain spare; out = g.out }

        st : Standing chain_calls g r.history id m.view.known c
        st = r.all.calls id m.view c at may.0

        e : (c.effects ≡ []) × HoldsOnly g.chain id Nothing × GivesUp g.chain id spare × (c.carried ≡ call_value c.call)
        e = early may.1 st.here.0

        ok : ChainOk after.chain
        ok = given_ok g.chain spare r.all.ok

        same : queue_of after.chain ≡ queue_of g.chain
        same = queue_given g.chain spare

        passes : PassesOut id g after
        passes = (passes_given g.chain g.chain id spare r.all.ok e.2 (passes_same g.chain id), λ j n ne reads. refl)

        others : (j : ℕ) (k : Known T) (b : InCall T) → j ≢ id → IsPrefix k.seen r.history → Standing chain_calls g r.history j k b → Standing chain_calls after r.history j k b
        others j k b ne seen stands =
            others_stay chain_calls chain_call_laws g after r.history None id j k b r.all.ok ok ne passes (same ∙ r.all.state) (λ (is : None ≡ Some Effect.Arrive). absurd (cc)) seen stands

    -- the load of the tail's word by which the call is given up
    pub gives_up : (p : Ptr) → te ≡ p → Allows (Rule te he) id m p PARTIES (λ n. n) (λ n q. HasLeft m q)
    gives_up p is = looks_at te he id m p PARTIES (λ q. HasLeft m q) is (lit< tt) (λ s r at. let d = leaves s r at in (idle m.view.known, [], tt, d.0, d.1))

  module _ (te he : Ptr) (id : ℕ) (m : Sitter T (CallState T)) (calls : m.view.work ≡ work.Calls (its_call m.view)) where
    -- a load that changes nothing tells where a push is
    pub looks_on : (p : Ptr) → te ≡ p → Allows (Rule te he) id m p PARTIES (λ n. n) (λ n q. (q ≡ m) × ShowsPlace m)
    looks_on p is = looks_at te he id m p PARTIES (λ q. (q ≡ m) × ShowsPlace m) is (lit< tt) (λ s r at.
        let st = r.all.calls id m.view (its_call m.view) at calls in
        (m.view, [], tt, subst (λ (vs : List (CallState T)). Rule te he record { blocks = s.blocks; views = vs }) (sym (set_again s.views id m.view at)) r, (refl, λ push. unbound push st.here.0)))
