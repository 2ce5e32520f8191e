-- Where a call on a ring stands that has had no effect yet.
use Rattle.std.specs.Prelude.{◌≡◌, ℕ, Bool, true, false}
use Rattle.queue_laws.specs.Common.Vocabulary.{Local, RingLocal}
use Rattle.queue_steps.specs.declared.steps.ring.RingLocal.{RingLocal as ring}

-- all but between a call's effects, and after them
abbrev pub is_early : RingLocal → Bool
is_early (ring.Filling d) = false
is_early (ring.Arriving t) = false
is_early ring.Swapping = false
is_early ring.Emptying = false
is_early _ = true

abbrev pub IsEarly : Local ℕ → Type 0
IsEarly (Local.Ring l) = is_early l ≡ true
IsEarly _ = Unit {0}
