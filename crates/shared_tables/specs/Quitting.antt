-- A call at a table that is given up.
use Rattle.std.specs.Prelude.{◌≡◌, []}
use Rattle.queue_steps.specs.Kinds.{call_value}
use Rattle.shared_parties.specs.{declared.known.Work.Work as work, Calling.CallsOf, Quitting.its_call, Quitting.Quit}
use Rattle.shared_tables.specs.{Early.IsEarly, Seats.Seated}

-- the seat is at a call that has had no effect
abbrev pub MayQuit : {T : Type 0} → Seated T → Type 0
MayQuit m = (m.0.work ≡ work.Calls (its_call m.0)) × (m.1 ≡ (its_call m.0).lends) × IsEarly (its_call m.0).local

-- it has given that up, and has no slot; the call carried its own value
abbrev pub HasQuit : {T : Type 0} → CallsOf T → Seated T → Seated T → Type 0
HasQuit K m q = Quit K (its_call m.0) q.0 × (q.1 ≡ []) × ((its_call m.0).carried ≡ call_value (its_call m.0).call)
