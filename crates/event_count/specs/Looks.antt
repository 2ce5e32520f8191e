-- Looks with a ticket and without one.
use Rattle.event_count.specs.declared.patience.{Look.Look, Look.Look as look, Vain.Vain, Vain.Vain as vain}

module _ {C : Type 0} where
  -- a look in vain that was made without a ticket
  abbrev pub IsAwake : Vain C → Type 0
  IsAwake vain.Awake = Unit {0}
  IsAwake (vain.Missed missed) = ⊥

  -- the look in vain has a ticket to sleep on exactly if the look was made with one
  abbrev pub IsInVain : Look C → Vain C → Type 0
  IsInVain look.Awake v = IsAwake v
  IsInVain (look.Prepared ticket) v = IsAwake v → ⊥
