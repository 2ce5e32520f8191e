-- Where a call on the two words may begin, stop and end.
use Rattle.std.specs.Prelude.{◌≡◌, ℕ, Bool, true, false}
use Rattle.event_count.specs.declared.wakes.steps.Phase.{Phase, TheVariants.Idle, TheVariants.Starting, TheVariants.Prepared, TheVariants.Missed, TheVariants.Returned, TheVariants.Given, TheVariants.Taking, TheVariants.Clearing}
use Rattle.event_count.specs.declared.wakes.steps.Step.{Step, TheVariants.Rest, TheVariants.Park}

-- a call of `prepare` or of a notify
abbrev pub Begins : Phase → Type 0
Begins Starting = Unit {0}
Begins Given = Unit {0}
Begins Clearing = Unit {0}
Begins other = ⊥

-- its caller has looked, and waits for it or gives it up
abbrev pub is_prepared : Phase → Bool
is_prepared (Prepared events) = true
is_prepared other = false

-- its caller has looked in vain, and sleeps next
abbrev pub is_missed : Phase → Bool
is_missed (Missed events) = true
is_missed other = false

-- a notify of one has found that so many may sleep
abbrev pub IsTaking : Phase → Type 0
IsTaking phase = (sleepers : ℕ) × (phase ≡ Taking sleepers)

-- a call has ended
abbrev pub is_over : Phase → Bool
is_over Idle = true
is_over Returned = true
is_over other = false

-- the step of a call that sleeps
abbrev pub IsPark : Step → Type 0
IsPark (Park events) = Unit {0}
IsPark other = ⊥

-- a step on one of the words, or a wake
abbrev pub IsOnWords : Step → Type 0
IsOnWords Rest = ⊥
IsOnWords (Park events) = ⊥
IsOnWords other = Unit {0}
