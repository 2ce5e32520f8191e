-- A party at a table that begins a call, and one whose call ended.
use Rattle.std.proofs.Common.{◌≡◌, ◌∙◌, ℕ, Option, sym, ap, subst}
use Rattle.atomic_table.specs.{Seated.TableId, declared.shared.Seat.Seat}
use Rattle.queue_steps.specs.{declared.model.Call.Call, declared.model.Reply.Reply, Effect.IsHistory}
use Rattle.shared_parties.specs.{declared.known.CallState.CallState, Calling.cap_of}
use Rattle.shared_tables.specs.{AtTable.TableSeat, AtTable.IsAt, AtTable.Ended, TableRule.TableOf}
use Rattle.concurrent_queue.specs.{declared.party.SeatPlace.SeatPlace, declared.party.SeatPlace.SeatPlace as place, Calling.IsHeldAt, Shared.QueueId, Shared.at_table, Shared.PartyView, Shared.IsHeld, Shared.Calls, Shared.party_view_of}
use Rattle.concurrent_queue.proofs.PartyViews.{ended_party_view, ended_calls}

-- a table is known by its name
pub same_table : (a b : TableId) → at_table a ≡ at_table b → a ≡ b
same_table a b e = let h : at_table a ≡ at_table b = e in cc

module _ {T : Type 0} (a : SeatPlace T) (s : Seat (Option T) (CallState T)) (cap : Option ℕ) (t : TableId) (sits : a ≡ place.Table s) (is : IsHeld a) where
  abbrev at : Seat (Option T) (CallState T) → TableSeat T
  at p = (p.table_id, p.me)

  abbrev held : IsHeld (place.Table s)
  held = subst IsHeld sits is

  -- it may begin a call
  pub table_begins : s.table_id ≡ t → s.me.0.known.cap ≡ cap → IsAt cap t (at s)
  table_begins here one = (here, (held.0.0, held.1), one, subst (λ z. IsHistory z s.me.0.known.seen) one held.0.1.legal, held.0.1.whole)

  -- where its call ended it is a party of its queue again, and the call is one that contracts see
  pub table_ends : (q : Seat (Option T) (CallState T)) (b : SeatPlace T) (v : PartyView T) (c : Call T) (r z : Reply T) → b ≡ place.Table q → z ≡ r → party_view_of a ≡ v → v.queue.cap ≡ cap → t ≡ s.table_id → Ended cap t (at s) c r (at q) → IsHeld b × Calls v c z (party_view_of b)
  table_ends q b v c r z sat same is_v one here e = (
    subst IsHeld (sym sat) (ended_party_view cap t (at s) (at q) c r held.0 e),
    subst (λ p. Calls v c z (party_view_of p)) (sym sat) (subst (λ y. Calls v c y (party_view_of (place.Table q))) (sym same) (ended_calls cap t (at s) (at q) v c r (subst (λ p. party_view_of p ≡ v) sits is_v) one here held.0 e)),
  )

abbrev pub queue_at : TableId → Option ℕ → QueueId
queue_at t cap = record { name = at_table t; cap = cap }

-- the same of a party of which it is known whose queue that is
module _ {T : Type 0} (a : SeatPlace T) (s : Seat (Option T) (CallState T)) (cap : Option ℕ) (t : TableId) (v : PartyView T) (sits : a ≡ place.Table s) (is : IsHeld a) (is_v : party_view_of a ≡ v) (of : v.queue ≡ queue_at t cap) where
  sits_there : queue_at s.table_id s.me.0.known.cap ≡ queue_at t cap
  sits_there = ap (λ (p : PartyView T). p.queue) (subst (λ p. party_view_of p ≡ v) sits is_v) ∙ of

  pub here : s.table_id ≡ t
  here = same_table s.table_id t (ap (λ (z : QueueId). z.name) sits_there)

  pub begins_here : IsAt cap t (s.table_id, s.me)
  begins_here = table_begins a s cap t sits is here (ap (λ (z : QueueId). z.cap) sits_there)

  pub ends_here : (q : Seat (Option T) (CallState T)) (b : SeatPlace T) (c : Call T) (r z : Reply T) → b ≡ place.Table q → z ≡ r → Ended cap t (s.table_id, s.me) c r (q.table_id, q.me) → IsHeld b × Calls v c z (party_view_of b)
  ends_here q b c r z sat same e = table_ends a s cap t sits is q b v c r z sat same is_v (ap (λ (z : QueueId). z.cap) of) (sym here) e

-- it is held at that table
pub held_here : {T : Type 0} (K : ℕ → TableOf T) (t : TableId) (a : SeatPlace T) (s : Seat (Option T) (CallState T)) (v : PartyView T) → a ≡ place.Table s → IsHeld a → party_view_of a ≡ v → v.queue ≡ queue_at t (cap_of (K t.slots).calls) → IsHeldAt K t s
held_here K t a s v sits is is_v of = (subst IsHeld sits is, ap (λ (p : PartyView _). p.queue) (subst (λ p. party_view_of p ≡ v) sits is_v) ∙ of)
