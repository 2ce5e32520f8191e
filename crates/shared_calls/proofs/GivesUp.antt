-- A call that gives up where it stands in the place of waiting: to its party it is as if it had asked for the capacity.
use Rattle.std.proofs.Common.{◌≡◌, ℕ, true, false, Option, None, Continue, Break, sym, ap, subst, ◌∙◌}
use Rattle.std.specs.{ControlFlow.MatchControlFlow, declared.ops.ControlFlow.ControlFlow}
use Rattle.atomic_table.specs.{Seated.TableId, declared.shared.Seat.Seat}
use Rattle.mem_blocks.specs.{Seats.Same, Web.Sitter, declared.block.BlockPtr.BlockPtr as Link, declared.web.Seat.Seat as WebSeat}
use Rattle.queue_laws.specs.{Common.Vocabulary.Call, Common.Vocabulary.Reply, Common.Vocabulary.Kind, Common.Vocabulary.Answer, Common.Vocabulary.Local, Common.Vocabulary.Next, Chain.ChainEarly.IsPush, Chain.ChainEarly.IsBound}
use Rattle.queue_steps.specs.{Kinds.call_value, Next.CanNext, Next.next_of}
use Rattle.shared_parties.specs.{declared.known.CallState.CallState, declared.known.InCall.InCall, declared.known.Work.Work as work, Calling.cap_of, CallsAt.begun_at, Known.view_of, Quitting.its_call}
use Rattle.shared_parties.proofs.Quits.{quit_looks}
use Rattle.shared_tables.specs.{AtTable.TableSeat, AtTable.Ended, Quitting.HasQuit, Seats.view_at, TableRule.TableOf, TableTurns.TableStands}
use Rattle.shared_chain.specs.{declared.web.ChainWeb.ChainWeb, ChainCalls.chain_calls, Names.link_of, Names.local_map, Names.answer_map, Names.next_map, Quitting.HasQuit as HasQuitIn, Quitting.ShowsPlace, Turning.IsFree, Turning.ChainStands, Turning.ChainEnded}
use Rattle.shared_chain.specs.Steps as chain
use Rattle.shared_chain.proofs.Frames.Renamed.{next_of_map}
use Rattle.shared_calls.specs.{declared.chain.Asking.Asking, declared.left.Left.Left, Halts.Halts, Halts.HaltsIn, Halts.next_at, Halts.is_early_step, Pausing.IsStep, Settling.MayWait}
use Rattle.shared_calls.proofs.{Quits.bound_named, Steps.at_step, Steps.at_its, Steps.in_step, Steps.step_named}

is_step : {B : Type 0} (n : Next B) → is_early_step n ≡ true → IsStep n
is_step (Next.Step l t o) early = tt
is_step (Next.Reply r spare) early = absurd (let f : false ≡ true = early in cc)

-- what is so of either outcome
pub matched : {R V : Type 0} (A B : V → Type 0) (C D : R → Type 0) (x : ControlFlow R V) → ((v : V) → A v → B v) → ((r : R) → C r → D r) → MatchControlFlow x A C → MatchControlFlow x B D
matched A B C D (Continue v) f g h = f v h
matched A B C D (Break r) f g h = g r h

module _ {T A Q : Type 0} (w : ChainWeb T A) (p : Asking T A Q) (c : Call T) where
  -- the call c that the seat p began has ended; or its value has come back, and it is as if the seat had asked for the capacity
  abbrev pub ToldIn : ControlFlow (Reply T) (Option T) → Asking T A Q → Type 0
  ToldIn told q = MatchControlFlow told (λ value. ChainEnded w p.seat Call.Capacity (Reply.Capacity None) q.seat × (value ≡ call_value c)) (λ answer. ChainEnded w p.seat c answer q.seat)

  -- the seat has nothing in hand then
  pub told_free : (told : ControlFlow (Reply T) (Option T)) (q : Asking T A Q) → ToldIn told q → IsFree q.seat.sitter
  told_free (Continue v) q h = h.0.0.1
  told_free (Break r) q h = h.0.1

module _ {T : Type 0} (K : ℕ → TableOf T) (t : TableId) (n : ℕ) (p : TableSeat T) (c : Call T) (s : Seat (Option T) (CallState T)) (l : Left T ℕ) (kind : l.kind ≡ (K t.slots).calls.kind)
    (stands : TableStands K n t p c l.progress.local l.progress.answer (s.table_id, s.me) l.carried) where
  -- a call that stands there halts there
  pub halts : Halts (K t.slots) s l
  halts = (kind, stands.1.0, stands.1.3, stands.1.4)

  -- and is given up where it has had no effect
  pub gave_up : (q : Seat (Option T) (CallState T)) → is_early_step (next_at l) ≡ true → q.table_id ≡ s.table_id → HasQuit (K t.slots).calls s.me q.me
      → Ended (cap_of (K t.slots).calls) t p Call.Capacity (Reply.Capacity (cap_of (K t.slots).calls)) (q.table_id, q.me) × (call_value (its_call s.me.0).call ≡ call_value c)
  gave_up q early same (quit, none, carried) =
      let step = subst (λ (k : Kind). IsStep (next_of k l.progress.local l.progress.answer)) kind (is_step (next_at l) early) in
      let h = at_step (K t.slots) stands.1.0 l.carried (next_of (K t.slots).calls.kind l.progress.local l.progress.answer) s.me step stands.1.4 in
      let its : its_call s.me.0 ≡ h.0 = at_its s.me.0 h.0 h.1 in (
        (
          (same ∙ stands.0, (quit.rests, none), quit.cap, quit.legal, quit.owns),
          quit_looks (K t.slots).calls (its_call s.me.0) q.me.0 (view_at p.1) (ap begun_at its ∙ (h.3 ∙ stands.1.2)) quit,
        ),
        ap (λ (z : InCall T). call_value z.call) its ∙ ap call_value (h.2 ∙ stands.1.1),
      )

module _ {T A Q : Type 0} (w : ChainWeb T A) (p s : Asking T A Q) (c : Call T) (l : Left T (Link T)) (kind : l.kind ≡ Kind.Unbounded)
    (stands : ChainStands w p.seat c l.progress.local l.progress.answer s.seat l.carried) where
  -- what it is to do next, by the names of blocks
  abbrev todo : Next ℕ
  todo = next_of Kind.Unbounded stands.1.3.0 stands.1.3.1

  its_next : next_map link_of todo ≡ next_at l
  its_next = sym (next_of_map link_of stands.1.3.0 stands.1.3.1 stands.1.3.4) ∙ ((λ j. next_of Kind.Unbounded (stands.1.3.2 j) (sym stands.1.3.3 j)) ∙ ap (λ (k : Kind). next_of k l.progress.local l.progress.answer) (sym kind))

  pub halts_in : HaltsIn s l
  halts_in = (kind, stands.1.0, stands.1.3.0, stands.1.3.1, stands.1.3.2, stands.1.3.3, stands.1.3.4, stands.1.3.5)

  -- it is at a call
  pub at_call : IsStep (next_at l) → s.seat.sitter.view.work ≡ work.Calls (its_call s.seat.sitter.view)
  at_call step =
      let h = in_step stands.1.0 l.carried todo s.seat.sitter (step_named T todo (subst IsStep (sym its_next) step)) stands.1.3.5 in
      h.1 ∙ ap work.Calls (sym (at_its s.seat.sitter.view h.0 h.1))

  -- and stands there after a look that changes nothing
  pub looked : (q : WebSeat T (CallState T) A) → Same q s.seat → q.sitter ≡ s.seat.sitter → ChainStands w p.seat c l.progress.local l.progress.answer q l.carried
  looked q same is = (
    (same.0 ∙ stands.0.0, same.1 ∙ stands.0.1),
    subst (λ (m : Sitter T (CallState T)). (d : InCall T) × (d.call ≡ c) × (begun_at d ≡ view_of p.seat.sitter.view.known) × ((i : Local ℕ) × (b : Answer ℕ)
        × (local_map link_of i ≡ l.progress.local) × (l.progress.answer ≡ answer_map link_of b) × CanNext Kind.Unbounded i b × chain.After d l.carried (next_of Kind.Unbounded i b) m))
        (sym is) stands.1,
  )

  -- a push that was looked at waits for no item
  pub no_wait : IsPush c → ShowsPlace s.seat.sitter → ¬ (MayWait l.kind (next_at l))
  no_wait push shows = λ waits. go todo its_next stands.1.3.5 (subst (λ (k : Kind). MayWait k (next_at l)) kind waits)
    where
      go : (n : Next ℕ) → next_map link_of n ≡ next_at l → chain.After stands.1.0 l.carried n s.seat.sitter → MayWait Kind.Unbounded (next_at l) → ⊥
      go (Next.Reply r b) e told waits = subst (λ (x : Next (Link T)). MayWait Kind.Unbounded x) (sym e) waits
      go (Next.Step y u o) e (xs, (d, at, local_is, touch_is, op_is, carried_is, call_is, begun_is, lends_is), holds, may) waits =
          let its : its_call s.seat.sitter.view ≡ d = at_its s.seat.sitter.view d at in
          shows (subst IsPush (sym (ap (λ (z : InCall T). z.call) its ∙ (call_is ∙ stands.1.1))) push)
          (subst IsBound (sym (ap (λ (z : InCall T). z.local) its ∙ local_is)) (bound_named link_of y (subst (λ (x : Next (Link T)). MayWait Kind.Unbounded x) (sym e) waits)))

  -- and is given up where it has had no effect
  pub gave_up_in : (q : Asking T A Q) → is_early_step (next_at l) ≡ true → Same q.seat s.seat → HasQuitIn s.seat.sitter q.seat.sitter
      → ChainEnded w p.seat Call.Capacity (Reply.Capacity None) q.seat × (call_value (its_call s.seat.sitter.view).call ≡ call_value c)
  gave_up_in q early same (quit, hand, spare, carried) =
      let h = in_step stands.1.0 l.carried todo s.seat.sitter (step_named T todo (subst IsStep (sym its_next) (is_step (next_at l) early))) stands.1.3.5 in
      let its : its_call s.seat.sitter.view ≡ h.0 = at_its s.seat.sitter.view h.0 h.1 in (
        (
          ((same.0 ∙ stands.0.0, same.1 ∙ stands.0.1), (hand, spare, quit.rests, quit.cap, quit.legal, quit.owns)),
          quit_looks chain_calls (its_call s.seat.sitter.view) q.seat.sitter.view (view_of p.seat.sitter.view.known) (ap begun_at its ∙ (h.3 ∙ stands.1.2)) quit,
        ),
        ap (λ (z : InCall T). call_value z.call) its ∙ ap call_value (h.2 ∙ stands.1.1),
      )
