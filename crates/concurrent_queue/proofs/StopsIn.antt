-- A call of a party of a shared chain that stands before one of its steps: how it comes to stand there, and how it is taken up.
use Rattle.std.proofs.Common.{◌≡◌, ◌-◌, ℕ, true, None, Option, refl, sym, ap, subst, ◌∙◌}
use Rattle.mem_blocks.specs.{Web.Sitter, Web.sitter, declared.block.BlockPtr.BlockPtr as Link, declared.web.Rested.Rested}
use Rattle.queue_steps.specs.{declared.model.Call.Call, declared.model.Reply.Reply, declared.sizes.TheConstants.STEPS_ALONE, declared.steps.types.Kind.Kind, declared.steps.types.Kind.Kind as queue, Kinds.call_kind, Next.next_of, Parties.IsView, Parties.SharedCall}
use Rattle.shared_parties.specs.{declared.known.CallState.CallState, declared.known.InCall.InCall, declared.known.Work.Work as work, Called.call_of_work, Called.nothing_called, CallsAt.begun_at, Quitting.its_call, CallStates.idle, CallStates.IsResting, CallStates.HasAll, Known.party, Known.view_of}
use Rattle.shared_chain.specs.{Names.link_of, Names.next_map, Turning.SitsAt, Turning.ChainCan, Turning.ChainDoes, Turning.ChainStands, Turning.ChainEnded, declared.web.ChainWeb.ChainWeb}
use Rattle.shared_chain.specs.Steps as chain
use Rattle.shared_chain.proofs.Frames.Renamed.{next_of_map}
use Rattle.call_driver.specs.Leads.{GoesOn}
use Rattle.shared_calls.specs.{declared.allocated_chain.AllocatedChain.AllocatedChain, declared.chain.Asking.Asking, declared.left.Left.Left, InWeb.EndedAt, Pausing.IsStep}
use Rattle.shared_calls.specs.{ChainSite.ChainSpares, ChainSite.ChainGives, ChainSite.ChainOnWay, Laws.ChainSite.site_goes_on}
use Rattle.shared_calls.proofs.Steps.{in_step, step_named}
use Rattle.concurrent_queue.specs.{declared.party.SeatPlace.SeatPlace, declared.party.SeatPlace.SeatPlace as place, declared.shared.Form.Form as form, Begun.Begun, Calling.IsHeldIn, Pending.begun_by, Pending.IsStoppedIn, Pending.StopsInside}
use Rattle.concurrent_queue.specs.Shared.{QueueId, in_web, PartyView, party_view, IsHeld, Calls, party_view_of}
use Rattle.concurrent_queue.proofs.{Stops.begun_is, WebParties.web_ends}

module _ {T A Q : Type 0} (w : ChainWeb T A) where
  -- the seat with which the call of this seat began
  abbrev pub first_asking : Asking T A Q → Asking T A Q
  first_asking s = let c = its_call s.seat.sitter.view in record s { seat = record s.seat { sitter = sitter (idle (party None c.since c.before c.share)) None None } }

  -- where a call stands, it may be taken up
  pub taken_up_in : (s : Asking T A Q) (l : Left T (Link T)) (v : Begun T) → StopsInside w s l v
      → ChainStands w (first_asking s).seat (its_call s.seat.sitter.view).call l.progress.local l.progress.answer s.seat l.carried
  taken_up_in s l v h = (h.0, (its_call s.seat.sitter.view, refl, refl, (h.1.local, h.1.answer, h.1.local_is, h.1.answer_is, h.1.can, h.1.after)))

  -- a call that has taken a step, and is to do another, stands there
  stops_in : (p s : Asking T A Q) (c : Call T) (l : Left T (Link T)) → IsView None (view_of p.seat.sitter.view.known) → l.kind ≡ queue.Unbounded → l.call ≡ call_kind c
      → ChainStands w p.seat c l.progress.local l.progress.answer s.seat l.carried → IsStep (next_of l.kind l.progress.local l.progress.answer)
      → SitsAt w s.seat × IsStoppedIn s l × (begun_at (its_call s.seat.sitter.view) ≡ view_of p.seat.sitter.view.known) × ((its_call s.seat.sitter.view).call ≡ c)
  stops_in p s c l is_view is_kind is_call (sits, (b, of, begun, (i, a, local_is, answer_is, can, after))) step =
      let step' : IsStep (next_of queue.Unbounded l.progress.local l.progress.answer) = subst (λ (k : Kind). IsStep (next_of k l.progress.local l.progress.answer)) is_kind step in
      let named : next_map link_of (next_of queue.Unbounded i a) ≡ next_of queue.Unbounded l.progress.local l.progress.answer = sym (next_of_map link_of i a can) ∙ (λ j. next_of queue.Unbounded (local_is j) (sym answer_is j)) in
      let h = in_step b l.carried (next_of queue.Unbounded i a) s.seat.sitter (step_named T (next_of queue.Unbounded i a) (subst IsStep (sym named) step')) after in
      let d = h.0 in
      let same : its_call s.seat.sitter.view ≡ d = ap (call_of_work nothing_called) h.1 in
      let view : begun_at (its_call s.seat.sitter.view) ≡ view_of p.seat.sitter.view.known = ap begun_at same ∙ (h.3 ∙ begun) in
      let call : (its_call s.seat.sitter.view).call ≡ c = ap (λ (z : InCall T). z.call) same ∙ (h.2 ∙ of) in (
        sits,
        record {
          at = h.1 ∙ ap work.Calls (sym same);
          kind = is_kind;
          call = is_call ∙ ap call_kind (sym call);
          view = subst (IsView None) (sym view) is_view;
          local = i;
          answer = a;
          local_is = local_is;
          answer_is = answer_is;
          can = can;
          after = subst (λ (z : InCall T). chain.After z l.carried (next_of queue.Unbounded i a) s.seat.sitter) (sym same) h.4;
          step = step';
        },
        view,
        call,
      )

  -- so does one that the party v began
  pub started_in : (r : Rested (CallState T)) (a : SeatPlace T) (p q : Asking T A Q) (l : Left T (Link T)) (v : PartyView T) (c : Call T) → a ≡ place.Web r → IsHeld a → party_view_of a ≡ v → v.queue ≡ record { name = in_web w.web.id; cap = None }
      → p.seat.sitter ≡ sitter r.view None None → l.kind ≡ queue.Unbounded → l.call ≡ call_kind c → ChainStands w p.seat c l.progress.local l.progress.answer q.seat l.carried → IsStep (next_of l.kind l.progress.local l.progress.answer)
      → StopsInside w q l (record { party = v; call = c })
  started_in r a p q l v c sits is is_v queue woke kind call stands step =
      let is_v' : party_view_of (place.Web r) ≡ v = subst (λ (z : SeatPlace T). party_view_of z ≡ v) sits is_v in
      let cap_is : r.view.known.cap ≡ None = ap (λ (z : PartyView T). z.queue.cap) is_v' ∙ ap (λ (z : QueueId). z.cap) queue in
      let view_is : view_of p.seat.sitter.view.known ≡ view_of r.view.known = ap (λ (z : Sitter T (CallState T)). view_of z.view.known) woke in
      let h = stops_in p q c l (subst (IsView None) (sym view_is) (subst (λ (z : Option ℕ). IsView z (view_of r.view.known)) cap_is (subst IsHeld sits is).0.1)) kind call stands step in
      (h.0, h.1, begun_is (in_web q.seat.web) None q.seat.sitter.view v c (queue ∙ (λ i. record { name = in_web (sym h.0.0 i); cap = None })) (h.2 ∙ (view_is ∙ ap (λ (z : PartyView T). z.view) is_v')) h.3)

  -- a call of its party that has ended
  pub comes_back_in : (s q : Asking T A Q) (l : Left T (Link T)) (v : Begun T) (k : Call T) (y : Reply T) (r : Rested (CallState T)) → StopsInside w s l v → ChainEnded w (first_asking s).seat k y q.seat
      → r.asleep ≡ true → r.web ≡ q.seat.web → r.view ≡ q.seat.sitter.view → IsHeld (place.Web r) × Calls v.party k y (party_view_of (place.Web r))
  comes_back_in s q l v k y r old e asleep web view =
      let c = its_call s.seat.sitter.view in
      let first : Rested (CallState T) = record r { view = idle (party None c.since c.before c.share) } in
      let web_is : r.web ≡ s.seat.web = web ∙ (e.0.0.0 ∙ sym old.0.0) in
      let is_v : party_view_of (place.Web first) ≡ v.party = ap (λ z. party_view (in_web z) first.view) web_is ∙ ap (λ (z : Begun T). z.party) old.2 in
      let ends : EndedAt first k y r = (
        asleep,
        refl,
        subst IsResting (sym view) e.0.1.2,
        ap (λ (d : CallState T). d.known.cap) view ∙ e.0.1.3,
        subst HasAll (sym view) e.0.1.5,
        subst (λ (d : CallState T). SharedCall None (view_of first.view.known) (view_of d.known) k y) (sym view) e.1,
      ) in
      web_ends (place.Web first) (place.Web r) first r v.party k y y refl ((refl, old.1.view), asleep) refl refl is_v (ap (λ (z : Begun T). z.party.queue.cap) (sym old.2)) ends

module _ {T A Q : Type 0} (here : AllocatedChain T A) where
  -- the party that began it, and the call
  abbrev pub began_in : Asking T A Q → Begun T
  began_in s = begun_by (in_web s.seat.web) None s.seat.sitter.view

  abbrev LeadsOn : Kind → Asking T A Q → Call T → Left T (Link T) → Asking T A Q → Type 0
  LeadsOn k first c l s =
      GoesOn {M = AllocatedChain T A} {S = Asking T A Q} (λ m s. ChainCan m.chain s.seat) (λ m s k l u o x a q. ChainDoes s.seat k l u o x a q.seat) (λ m s. ChainSpares m.chain s.seat) (λ m s b q. ChainGives m.chain s.seat b q.seat)
      (λ n m s c l a q. ChainOnWay n m.chain s.seat c l a q.seat) (λ m s c r q. ChainEnded m.chain s.seat c r q.seat)
      (STEPS_ALONE - 1) k here first c l.progress.local l.progress.answer s l.carried

  -- a call that stands there goes on as one that has left its fast steps
  pub resumes_in : (s : Asking T A Q) (l : Left T (Link T)) (v : Begun T) → StopsInside here.chain s l v
      → (r : Rested (CallState T)) × (first : Asking T A Q) × IsHeldIn (form.Chain here) (place.Web r) × (first.seat.sitter ≡ sitter r.view None None) × (party_view_of (place.Web r) ≡ (began_in s).party)
      × ((l.kind ≡ queue.Unbounded) × (l.call ≡ call_kind (began_in s).call)) × LeadsOn l.kind first (began_in s).call l s
  resumes_in s l v h =
      let c = its_call s.seat.sitter.view in let first = first_asking here.chain s in (
        record { marker = record {}; web = s.seat.web; id = s.seat.id; asleep = true; view = idle (party None c.since c.before c.share) },
        first,
        (((refl, h.1.view), refl), λ i. record { name = in_web (h.0.0 i); cap = None }),
        refl,
        refl,
        (h.1.kind, h.1.call),
        subst (λ (k : Kind). LeadsOn k first c.call l s) (sym h.1.kind)
            (site_goes_on (λ (m : AllocatedChain T A). m.chain) (λ (p : Asking T A Q). p.seat) (STEPS_ALONE - 1) here first c.call l.progress.local l.progress.answer s l.carried (taken_up_in here.chain s l v h)),
      )
