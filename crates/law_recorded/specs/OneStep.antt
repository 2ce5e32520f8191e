-- What is legal where a displacement takes two steps, and what where it is one.
use Rattle.std.specs.Prelude.{ℕ, true, Option, List}
use Rattle.std.specs.List.{AllByRecursion}
use Rattle.queue_steps.specs.Looks.{IsGlance}
use Rattle.history_check.specs.declared.recorded.{Event.Event, Event.Event as event, Rules.Rules}
use Rattle.history_check.specs.Legal.{in_steps, IsLegal}

-- the rules of a queue on which a displacement is one step
abbrev pub in_one_step : Option ℕ → Rules
in_one_step cap = record { cap = cap; at_once = true }

-- the event begins no call that looks at the list alone
abbrev pub BeginsNoGlance : Event → Type 0
BeginsNoGlance (event.Begin p c) = ¬ (IsGlance c)
BeginsNoGlance (event.End p r) = Unit {0}

-- what is legal where a displacement is one step is legal where it takes two
abbrev pub OneStepIsTwo : Type 0
OneStepIsTwo = (cap : Option ℕ) (parties : ℕ) (events : List Event) → IsLegal (in_one_step cap) parties events → IsLegal (in_steps cap) parties events

-- and the other way round, where no call looks at the list alone
abbrev pub TwoStepsAreOne : Type 0
TwoStepsAreOne = (cap : Option ℕ) (parties : ℕ) (events : List Event) → AllByRecursion BeginsNoGlance events → IsLegal (in_steps cap) parties events → IsLegal (in_one_step cap) parties events
