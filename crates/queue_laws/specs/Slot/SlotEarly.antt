-- Where a call on one slot stands that has had no effect yet.
use Rattle.std.specs.Prelude.{◌≡◌, ℕ, Bool, true, false}
use Rattle.queue_laws.specs.Common.Vocabulary.{Local, SlotLocal}

-- before it has the lock
abbrev pub is_early : SlotLocal → Bool
is_early SlotLocal.Pushed = false
is_early (SlotLocal.Forced seen) = false
is_early SlotLocal.Popped = false
is_early _ = true

abbrev pub IsEarly : Local ℕ → Type 0
IsEarly (Local.Slot l) = is_early l ≡ true
IsEarly _ = Unit {0}
