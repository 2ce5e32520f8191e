-- A party's seat, and a call on its way, beside what its queue is made of.
use Rattle.std.specs.Prelude.{◌≡◌}
use Rattle.shared_tables.specs.{SlotTable.slot_table, RingTable.ring_table}
use Rattle.concurrent_queue.specs.{declared.party.SeatPlace.SeatPlace, declared.party.SeatPlace.SeatPlace as place, Begun.Begun, Pending.StopsHere, Pending.StopsInside}
use Rattle.concurrent_queue.specs.declared.shared.{Form.Form, Form.Form as form, standing.Seated.Seated, standing.Seated.Seated as seated, standing.Standing.Standing, standing.Standing.Standing as standing}

-- the call of v stands there
abbrev pub StandsAs : {T A : Type 0} → Standing T A → Begun T → Type 0
StandsAs (standing.Slot table s l) v = StopsHere (λ _. slot_table) table.now.table.shared.table_id s l v
StandsAs (standing.Ring table s l) v = StopsHere ring_table table.now.table.shared.table_id s l v
StandsAs (standing.Chain queue s l) v = StopsInside queue.now.chain s l v

-- the seat at this place of this queue is that one
abbrev pub IsSeatOf : {T A : Type 0} → Form T A → SeatPlace T → Seated T A → Type 0
IsSeatOf f p (seated.Slot table s) = (f ≡ form.Slot table.now) × (p ≡ place.Table s)
IsSeatOf f p (seated.Ring table s) = (f ≡ form.Ring table.now) × (p ≡ place.Table s)
IsSeatOf f p (seated.Chain queue r) = (f ≡ form.Chain queue.now) × (p ≡ place.Web r)
