-- Which queues `replay` takes, and the room in its lists.
use Rattle.std.specs.Prelude.{◌≡◌, ℕ, ◌<◌, ◌≤◌, nat_lt, Bool, false, vec_len, vec_capacity}
use Rattle.machine_replay.specs.{Vocabulary.Kind, Vocabulary.MAX_CAPACITY, declared.run.Lists.Lists}

-- a ring has more than one slot
abbrev pub CanReplay : Kind → Type 0
CanReplay Kind.Single = Unit {0}
CanReplay (Kind.Bounded n) = 1 < n
CanReplay Kind.Unbounded = Unit {0}

-- the capacity is more than any queue may have
abbrev pub is_too_large : Kind → Bool
is_too_large (Kind.Bounded n) = nat_lt MAX_CAPACITY n
is_too_large _ = false

-- no list has more entries than so many events can have made, and each has room for those of `room` events
pub record IsRoomy {T A : Type 0} (l : Lists T A) (events room : ℕ) : Type 0 where
  pub replies : (vec_len l.replies ≤ events) × (vec_capacity l.replies ≡ room)
  pub effects : (vec_len l.effects ≤ events) × (vec_capacity l.effects ≡ room)
  pub skipped : (vec_len l.skipped ≤ events) × (vec_capacity l.skipped ≡ room)
