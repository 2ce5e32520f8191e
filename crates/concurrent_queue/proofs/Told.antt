-- A party whose call was tried: it is held again, and the call was made or has done nothing.
use Rattle.std.proofs.Common.{◌≡◌, ℕ, Option, None, Continue, Break, refl, sym, ap, subst, ◌∙◌}
use Rattle.std.specs.{ControlFlow.MatchControlFlow, declared.ops.ControlFlow.ControlFlow}
use Rattle.atomic_table.specs.{Seated.TableId, declared.shared.Seat.Seat}
use Rattle.mem_blocks.specs.declared.web.Rested.{Rested}
use Rattle.queue_steps.specs.{declared.model.Call.Call, declared.model.Call.Call as call, declared.model.Reply.Reply, declared.model.Reply.Reply as reply, Kinds.call_value}
use Rattle.shared_parties.specs.declared.known.CallState.{CallState}
use Rattle.shared_tables.specs.AtTable.{Ended}
use Rattle.concurrent_queue.specs.{declared.party.SeatPlace.SeatPlace, declared.party.SeatPlace.SeatPlace as place, Shared.QueueId, Shared.PartyView, Shared.IsHeld, Shared.party_view_of, Tries.Tries}
use Rattle.shared_calls.specs.InWeb.{EndedAt}
use Rattle.concurrent_queue.proofs.{Quits.saw_more, TableCalls.queue_at, TableCalls.here, TableCalls.table_ends, WebParties.web_ends}

module _ {T : Type 0} where
  pub told_table : (a : SeatPlace T) (s : Seat (Option T) (CallState T)) (cap : Option ℕ) (t : TableId) → a ≡ place.Table s → IsHeld a → (q : Seat (Option T) (CallState T)) (b : SeatPlace T) (v : PartyView T) (c : Call T) (x z : ControlFlow (Reply T) (Option T))
      → b ≡ place.Table q → z ≡ x → party_view_of a ≡ v → v.queue.cap ≡ cap → t ≡ s.table_id
      → MatchControlFlow x (λ value. Ended cap t (s.table_id, s.me) call.Capacity (reply.Capacity cap) (q.table_id, q.me) × (value ≡ call_value c)) (λ r. Ended cap t (s.table_id, s.me) c r (q.table_id, q.me))
      → IsHeld b × Tries v c z (party_view_of b)
  told_table a s cap t sits is q b v c (Continue value) z sat same is_v one here h =
      let e = table_ends a s cap t sits is q b v call.Capacity (reply.Capacity cap) (reply.Capacity cap) sat refl is_v one here h.0 in
      (e.0, subst (λ y. Tries v c y (party_view_of b)) (sym same) (saw_more v (party_view_of b) (reply.Capacity cap) e.1, h.1))
  told_table a s cap t sits is q b v c (Break r) z sat same is_v one here h =
      let e = table_ends a s cap t sits is q b v c r r sat refl is_v one here h in
      (e.0, subst (λ y. Tries v c y (party_view_of b)) (sym same) e.1)

  pub told_web : (a b : SeatPlace T) (r q : Rested (CallState T)) (v : PartyView T) (c : Call T) (x z : ControlFlow (Reply T) (Option T)) → a ≡ place.Web r → IsHeld a → b ≡ place.Web q → z ≡ x → party_view_of a ≡ v → v.queue.cap ≡ None
      → MatchControlFlow x (λ value. EndedAt r call.Capacity (reply.Capacity None) q × (value ≡ call_value c)) (λ y. EndedAt r c y q) → IsHeld b × Tries v c z (party_view_of b)
  told_web a b r q v c (Continue value) z rested is resting same is_v none h =
      let e = web_ends a b r q v call.Capacity (reply.Capacity None) (reply.Capacity None) rested is resting refl is_v none h.0 in
      (e.0, subst (λ y. Tries v c y (party_view_of b)) (sym same) (saw_more v (party_view_of b) (reply.Capacity None) e.1, h.1))
  told_web a b r q v c (Break y) z rested is resting same is_v none h =
      let e = web_ends a b r q v c y y rested is resting refl is_v none h in
      (e.0, subst (λ u. Tries v c u (party_view_of b)) (sym same) e.1)

-- the same of a party of which it is known whose queue that is
pub told_here : {T : Type 0} (a : SeatPlace T) (s : Seat (Option T) (CallState T)) (cap : Option ℕ) (t : TableId) (v : PartyView T) → a ≡ place.Table s → IsHeld a → party_view_of a ≡ v → v.queue ≡ queue_at t cap
    → (q : Seat (Option T) (CallState T)) (b : SeatPlace T) (c : Call T) (x : ControlFlow (Reply T) (Option T)) → b ≡ place.Table q
    → MatchControlFlow x (λ value. Ended cap t (s.table_id, s.me) call.Capacity (reply.Capacity cap) (q.table_id, q.me) × (value ≡ call_value c)) (λ r. Ended cap t (s.table_id, s.me) c r (q.table_id, q.me))
    → IsHeld b × Tries v c x (party_view_of b)
told_here a s cap t v sits is is_v of q b c x sat h = told_table a s cap t sits is q b v c x x sat refl is_v (ap (λ (z : QueueId). z.cap) of) (sym (here a s cap t v sits is is_v of)) h

-- and what its caller is told
pub tells : {T X Y : Type 0} (asks : X → Call T) (Tells : PartyView T → X → Y → PartyView T → Type 0) (v : PartyView T) (b : SeatPlace T) (given : X) (c : Call T) (told : ControlFlow (Reply T) (Option T)) (y z : Y)
    → IsHeld b × Tries v c told (party_view_of b) → c ≡ asks given → ((v w : PartyView T) (x : X) → Tries v (asks x) told w → Tells v x y w) → z ≡ y → IsHeld b × Tells v given z (party_view_of b)
tells asks Tells v b given c told y z h asked tell same = (h.0, subst (λ r. Tells v given r (party_view_of b)) (sym same) (tell v (party_view_of b) given (subst (λ k. Tries v k told (party_view_of b)) asked h.1)))

-- the same of a call that a seat's own function has made
pub tells_where : {T X Y : Type 0} (Tells : PartyView T → X → Y → PartyView T → Type 0) (a s b q : SeatPlace T) (v : PartyView T) (given : X) (y z : Y) → a ≡ s → party_view_of a ≡ v → b ≡ q → z ≡ y
    → IsHeld q × Tells (party_view_of s) given y (party_view_of q) → IsHeld b × Tells v given z (party_view_of b)
tells_where Tells a s b q v given y z sits is_v sat same h = (
  subst IsHeld (sym sat) h.0,
  subst (λ p. Tells v given z (party_view_of p)) (sym sat) (subst (λ u. Tells v given u (party_view_of q)) (sym same) (subst (λ p. Tells p given y (party_view_of q)) (ap party_view_of (sym sits) ∙ is_v) h.1)),
)
