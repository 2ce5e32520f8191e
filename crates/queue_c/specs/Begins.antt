-- What a call that is begun has come to.
use Rattle.std.specs.Prelude.{◌≡◌, ℕ, false, Option, Some, None}
use Rattle.queue_steps.specs.{declared.model.Call.Call, declared.model.Reply.Reply, WaitFree.is_wait_free}
use Rattle.concurrent_queue.specs.{Begun.Begun, Shared.PartyView, Shared.Calls}

-- the call c of the party v has ended, as each call does; or it is kept, pending, which a wait-free one never is
abbrev pub Begins : PartyView ℕ → Call ℕ → Option (PartyView ℕ × Reply ℕ) → Option (Begun ℕ) → Type 0
Begins v c (Some (w, r)) kept = Calls v c r w × (kept ≡ None)
Begins v c None kept = (kept ≡ Some (record { party = v; call = c })) × (is_wait_free c ≡ false)
