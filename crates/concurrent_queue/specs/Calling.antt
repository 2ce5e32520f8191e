-- A party of a queue between its calls, by where its seat is.
use Rattle.std.specs.Prelude.{ℕ, Option}
use Rattle.atomic_table.specs.{declared.shared.Seat.Seat, Seated.TableId}
use Rattle.shared_parties.specs.{declared.known.CallState.CallState, Calling.cap_of}
use Rattle.concurrent_queue.specs.{declared.party.SeatPlace.SeatPlace, declared.party.SeatPlace.SeatPlace as place, declared.shared.Form.Form, Shared.QueueId, Shared.IsPartyOf, Shared.IsHeld, Shared.at_table, Shared.form_id, Shared.party_view_of}
use Rattle.shared_tables.specs.TableRule.{TableOf}

-- the queue at a table of this kind
abbrev pub queue_at : {T : Type 0} → (ℕ → TableOf T) → TableId → QueueId
queue_at K t = record { name = at_table t; cap = cap_of (K t.slots).calls }

-- the seat is that of a party of the queue at this table, between its calls
abbrev pub IsHeldAt : {T : Type 0} → (ℕ → TableOf T) → TableId → Seat (Option T) (CallState T) → Type 0
IsHeldAt K t s = IsHeld (place.Table s) × IsPartyOf (party_view_of (place.Table s)) (queue_at K t)

-- the seat is that of a party of this queue, between its calls
abbrev pub IsHeldIn : {T A : Type 0} → Form T A → SeatPlace T → Type 0
IsHeldIn f p = IsHeld p × IsPartyOf (party_view_of p) (form_id f)
