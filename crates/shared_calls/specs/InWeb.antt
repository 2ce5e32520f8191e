-- A party of a shared chain between its calls, and when a call of it ended.
use Rattle.std.specs.Prelude.{◌≡◌, true, None}
use Rattle.mem_blocks.specs.{Laid.WebId, declared.web.Rested.Rested}
use Rattle.queue_laws.specs.Common.Vocabulary.{Call, Reply}
use Rattle.queue_steps.specs.Parties.{SharedCall}
use Rattle.shared_parties.specs.{declared.known.CallState.CallState, Known.view_of, CallStates.IsResting, CallStates.HasAll, Parting.IsParty}

-- the party rests in this web
abbrev pub RestsAt : {T : Type 0} → WebId → Rested (CallState T) → Type 0
RestsAt w r = (r.asleep ≡ true) × (r.web ≡ w) × IsParty r.view × (r.view.known.cap ≡ None)

-- the call took the party from r to q, and it rests again
abbrev pub EndedAt : {T : Type 0} → Rested (CallState T) → Call T → Reply T → Rested (CallState T) → Type 0
EndedAt r c y q = (q.asleep ≡ true) × (q.web ≡ r.web) × IsResting q.view × (q.view.known.cap ≡ None) × HasAll q.view × SharedCall None (view_of r.view.known) (view_of q.view.known) c y
