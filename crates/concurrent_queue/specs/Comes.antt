-- What a call that never waits has come to.
use Rattle.std.specs.Prelude.{◌≡◌, Option, Some, None}
use Rattle.queue_steps.specs.declared.model.{Call.Call, Reply.Reply}
use Rattle.concurrent_queue.specs.{declared.shared.pending.Outcome.Outcome, declared.shared.pending.Outcome.Outcome as outcome, Begun.Begun, Shared.PartyView, Shared.Calls}

-- the call c of the party v: it has ended, as each call does; or it is on its way, and is still that call of that party
abbrev pub Comes : {T A : Type 0} → PartyView T → Call T → Outcome T A → Type 0
Comes v c (outcome.Done w r) = Calls v c r w
Comes v c (outcome.Pending p) = p ≡ record { party = v; call = c }

-- the same of a call that is kept in a place of the caller's while it is on its way
abbrev pub ComesInto : {T : Type 0} → PartyView T → Call T → Option (PartyView T × Reply T) → Option (Begun T) → Type 0
ComesInto v c (Some (w, r)) kept = Calls v c r w × (kept ≡ None)
ComesInto v c None kept = kept ≡ Some (record { party = v; call = c })
