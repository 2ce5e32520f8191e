-- The ring that keeps a log.
use Rattle.std.specs.Prelude.{◌≡◌, ℕ, ◌<◌, true, Some}
use Rattle.std.specs.Option.{unwrap_or}
use Rattle.queue_steps.specs.{declared.sizes.TheConstants.LIMIT, Sequential.Owned}
use Rattle.use_owner.specs.Log.{Held}

abbrev pub capacity_of : {T : Type 0} → Owned T → ℕ
capacity_of ring = unwrap_or ring.queue.cap 0

-- the log that the ring keeps
abbrev pub held_by : {T : Type 0} → Owned T → Held T
held_by ring = record { capacity = capacity_of ring; entries = ring.queue.items; appended = ring.queue.accepted }

-- it has two slots at least, and is closed only once it has accepted all that it ever will
pub record IsLog {T : Type 0} (ring : Owned T) : Type 0 where
  pub capped : ring.queue.cap ≡ Some (capacity_of ring)
  pub many : 1 < capacity_of ring
  pub shut_when_spent : ring.queue.closed ≡ true → ring.queue.accepted ≡ LIMIT
