-- A call of a party at a table that stands before one of its steps: how it comes to stand there, and how it is taken up.
use Rattle.std.proofs.Common.{◌≡◌, ◌-◌, ℕ, [], Option, refl, sym, ap, subst, ◌∙◌}
use Rattle.atomic_table.specs.{Seated.TableId, declared.shared.Seat.Seat}
use Rattle.queue_steps.specs.{declared.model.Call.Call, declared.model.Reply.Reply, declared.sizes.TheConstants.STEPS_ALONE, declared.steps.types.Kind.Kind, Kinds.call_kind, Next.next_of, Parties.IsView}
use Rattle.shared_parties.specs.{declared.known.CallState.CallState, declared.known.InCall.InCall, declared.known.Work.Work as work, Calling.cap_of, CallsAt.begun_at, Quitting.its_call, CallStates.idle, Known.party}
use Rattle.shared_tables.specs.{AtTable.TableSeat, AtTable.Ended, Seats.view_at, TableRule.TableOf, Laws.TableLeads.site_goes_on}
use Rattle.shared_tables.specs.TableTurns.{After, NoBlock, NoGift, TableCan, TableDoes, TableEnded, TableStands}
use Rattle.call_driver.specs.Leads.{GoesOn}
use Rattle.shared_calls.{specs.declared.left.Left.Left, specs.Pausing.IsStep, proofs.Steps.at_step, proofs.Steps.at_its}
use Rattle.concurrent_queue.specs.{declared.party.SeatPlace.SeatPlace, declared.party.SeatPlace.SeatPlace as place, Begun.Begun, Calling.IsHeldAt, Pending.begun_by, Pending.IsStoppedAt, Pending.StopsHere}
use Rattle.concurrent_queue.specs.Shared.{QueueId, QueueName, at_table, PartyView, party_view, IsHeld, Calls, party_view_of}
use Rattle.concurrent_queue.proofs.TableCalls.{table_ends}

module _ {T : Type 0} where
  -- the call that a seat is at, seen as contracts see it
  pub begun_is : (n : QueueName) (cap : Option ℕ) (d : CallState T) (v : PartyView T) (c : Call T) → v.queue ≡ record { name = n; cap = cap } → begun_at (its_call d) ≡ v.view → (its_call d).call ≡ c → begun_by n cap d ≡ record { party = v; call = c }
  begun_is n cap d v c queue view call = λ i. record { party = record { queue = sym queue i; view = view i }; call = call i }

module _ {T : Type 0} (K : ℕ → TableOf T) (t : TableId) where
  abbrev cap : Option ℕ
  cap = cap_of (K t.slots).calls

  abbrev at : Seat (Option T) (CallState T) → TableSeat T
  at s = (s.table_id, s.me)

  -- the seat with which the call of this seat began
  abbrev pub first_seat : Seat (Option T) (CallState T) → Seat (Option T) (CallState T)
  first_seat s = let c = its_call s.me.0 in record s { me = (idle (party cap c.since c.before c.share), []) }

  -- what is so of it at the seat's own table
  abbrev pub StopsThere : Seat (Option T) (CallState T) → Left T ℕ → Begun T → Type 0
  StopsThere s l v = IsStoppedAt (K s.table_id.slots) s l × (begun_by (at_table s.table_id) (cap_of (K s.table_id.slots).calls) s.me.0 ≡ v)

  pub go_there : (s : Seat (Option T) (CallState T)) (l : Left T ℕ) (v : Begun T) → StopsHere K t s l v → StopsThere s l v
  go_there s l v h = subst (λ (z : TableId). IsStoppedAt (K z.slots) s l × (begun_by (at_table z) (cap_of (K z.slots).calls) s.me.0 ≡ v)) (sym h.0) (h.1, h.2)

  -- where a call stands, it may be taken up
  pub taken_up : (n : ℕ) (s : Seat (Option T) (CallState T)) (l : Left T ℕ) (v : Begun T) → StopsHere K t s l v
      → TableStands K n t (at (first_seat s)) (its_call s.me.0).call l.progress.local l.progress.answer (at s) l.carried
  taken_up n s l v h = (h.0, (its_call s.me.0, refl, refl, h.1.can, h.1.after))

  -- a call that has taken a step, and is to do another, stands there
  stops : (n : ℕ) (p : TableSeat T) (c : Call T) (s : Seat (Option T) (CallState T)) (l : Left T ℕ) → IsView cap (view_at p.1) → l.kind ≡ (K t.slots).calls.kind → l.call ≡ call_kind c
      → TableStands K n t p c l.progress.local l.progress.answer (at s) l.carried → IsStep (next_of l.kind l.progress.local l.progress.answer)
      → (s.table_id ≡ t) × IsStoppedAt (K t.slots) s l × (begun_at (its_call s.me.0) ≡ view_at p.1) × ((its_call s.me.0).call ≡ c)
  stops n p c s l is_view is_kind is_call (here, (b, of, begun, can, after)) step =
      let step' : IsStep (next_of (K t.slots).calls.kind l.progress.local l.progress.answer) = subst (λ (k : Kind). IsStep (next_of k l.progress.local l.progress.answer)) is_kind step in
      let h = at_step (K t.slots) b l.carried (next_of (K t.slots).calls.kind l.progress.local l.progress.answer) s.me step' after in
      let d = h.0 in
      let same : its_call s.me.0 ≡ d = at_its s.me.0 d h.1 in
      let view : begun_at (its_call s.me.0) ≡ view_at p.1 = ap begun_at same ∙ (h.3 ∙ begun) in
      let call : (its_call s.me.0).call ≡ c = ap (λ (z : InCall T). z.call) same ∙ (h.2 ∙ of) in (
        here,
        record {
          at = h.1 ∙ ap work.Calls (sym same);
          kind = is_kind;
          call = is_call ∙ ap call_kind (sym call);
          view = subst (IsView cap) (sym view) is_view;
          can = can;
          after = subst (λ (z : InCall T). After (K t.slots) z l.carried (next_of (K t.slots).calls.kind l.progress.local l.progress.answer) s.me) (sym same) h.4;
          step = step';
        },
        view,
        call,
      )

  -- so does one that the party v began
  pub started : (n : ℕ) (a : SeatPlace T) (s q : Seat (Option T) (CallState T)) (l : Left T ℕ) (v : PartyView T) (c : Call T) → a ≡ place.Table s → IsHeld a → party_view_of a ≡ v → v.queue ≡ record { name = at_table t; cap = cap }
      → l.kind ≡ (K t.slots).calls.kind → l.call ≡ call_kind c → TableStands K n t (at s) c l.progress.local l.progress.answer (at q) l.carried → IsStep (next_of l.kind l.progress.local l.progress.answer)
      → StopsHere K t q l (record { party = v; call = c })
  started n a s q l v c sits is is_v queue kind call stands step =
      let is_v' : party_view_of (place.Table s) ≡ v = subst (λ (p : SeatPlace T). party_view_of p ≡ v) sits is_v in
      let cap_is : s.me.0.known.cap ≡ cap = ap (λ (z : PartyView T). z.queue.cap) is_v' ∙ ap (λ (z : QueueId). z.cap) queue in
      let h = stops n (at s) c q l (subst (λ (z : Option ℕ). IsView z (view_at s.me)) cap_is (subst IsHeld sits is).0.1) kind call stands step in
      (h.0, h.1, begun_is (at_table t) cap q.me.0 v c queue (h.2 ∙ ap (λ (z : PartyView T). z.view) is_v') h.3)

  -- a call of its party that has ended
  pub comes_back : (s q : Seat (Option T) (CallState T)) (l : Left T ℕ) (v : Begun T) (k : Call T) (y : Reply T) → StopsHere K t s l v → Ended cap t (at (first_seat s)) k y (at q)
      → IsHeld (place.Table q) × Calls v.party k y (party_view_of (place.Table q))
  comes_back s q l v k y old e =
      let is_v : party_view_of (place.Table (first_seat s)) ≡ v.party = ap (λ (z : TableId). party_view (at_table z) (first_seat s).me.0) old.0 ∙ ap (λ (z : Begun T). z.party) old.2 in
      table_ends (place.Table (first_seat s)) (first_seat s) cap t refl ((refl, old.1.view), refl) q (place.Table q) v.party k y y refl refl is_v (ap (λ (z : Begun T). z.party.queue.cap) (sym old.2)) (sym old.0) e

  -- the party that began it, and the call
  abbrev pub began : Seat (Option T) (CallState T) → Begun T
  began s = begun_by (at_table t) cap s.me.0

-- what does the calls shows a table
module _ {T M : Type 0} (K : ℕ → TableOf T) (m : M) (table : M → TableId) where
  abbrev LeadsOn : Kind → Seat (Option T) (CallState T) → Call T → Left T ℕ → Seat (Option T) (CallState T) → Type 0
  LeadsOn k first c l s =
      GoesOn {M = M} {S = Seat (Option T) (CallState T)} (λ m s. TableCan K (table m) (s.table_id, s.me)) (λ m s k l u o x a q. TableDoes K (table m) (s.table_id, s.me) k l u o x a (q.table_id, q.me))
      (λ m s. NoBlock (table m) (s.table_id, s.me)) (λ m s b q. NoGift (table m) (s.table_id, s.me) b (q.table_id, q.me))
      (λ n m s c l a q. TableStands K n (table m) (s.table_id, s.me) c l a (q.table_id, q.me)) (λ m s c r q. TableEnded K (table m) (s.table_id, s.me) c r (q.table_id, q.me))
      (STEPS_ALONE - 1) k m first c l.progress.local l.progress.answer s l.carried

  -- a call that stands there goes on as one that has left its fast steps
  pub resumes : (s : Seat (Option T) (CallState T)) (l : Left T ℕ) (v : Begun T) → StopsHere K (table m) s l v
      → (first : Seat (Option T) (CallState T)) × IsHeldAt K (table m) first × (party_view_of (place.Table first) ≡ (began K (table m) s).party)
      × ((l.kind ≡ (K (table m).slots).calls.kind) × (l.call ≡ call_kind (began K (table m) s).call)) × LeadsOn l.kind first (began K (table m) s).call l s
  resumes s l v h =
      let t = table m in let first = first_seat K t s in let c = (its_call s.me.0).call in (
        first,
        (((refl, h.1.view), refl), λ i. record { name = at_table (h.0 i); cap = cap_of (K t.slots).calls }),
        ap (λ (z : TableId). party_view (at_table z) first.me.0) h.0,
        (h.1.kind, h.1.call),
        subst (λ (k : Kind). LeadsOn k first c l s) (sym h.1.kind)
            (site_goes_on K table (λ (p : Seat (Option T) (CallState T)). (p.table_id, p.me)) (STEPS_ALONE - 1) m first c l.progress.local l.progress.answer s l.carried (taken_up K t STEPS_ALONE s l v h)),
      )
