-- Laws that follow from the effects alone, whoever makes them.
use Rattle.std.specs.Prelude.{◌≡◌, ℕ, ◌≤◌, true, List, length, Some}
use Rattle.queue_steps.specs.{State.State, declared.model.Effect.Effect, Effect.Runs, Effect.IsHistory, Effect.after_from, Effect.after}

-- once closed, always closed
abbrev pub StaysClosed : Type 0 → Type 0
StaysClosed T = (Q : State T) (es : List (Effect T)) → Runs Q es → Q.closed ≡ true → (after_from Q es).closed ≡ true

-- the list is never longer than the capacity, and the capacity is what it was
abbrev pub StaysWithin : Type 0 → Type 0
StaysWithin T = (c : ℕ) (es : List (Effect T)) → IsHistory (Some c) es → ((after (Some c) es).cap ≡ Some c) × (length (after (Some c) es).items ≤ c)
