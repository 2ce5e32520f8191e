-- Which events are skipped, told from the lists of a replay alone.
use Rattle.std.specs.Prelude.{◌≡◌, ◌⊎◌, ℕ, ◌<◌, Option, Some, List, slice_get, Contains}
use Rattle.machine_replay.specs.{Vocabulary.Reply, Vocabulary.Event, Vocabulary.Replay, Vocabulary.Begin, Vocabulary.Step, Conforms.Conforms, InCall.IsInCall}

-- the event n fits: its party is one of the machine's, and between calls where it begins one, in a call where it takes a step
abbrev pub ShouldRun : {T : Type 0} → ℕ → List (Event T) → List ℕ → List (ℕ × ℕ × Reply T) → ℕ → Event T → Type 0
ShouldRun parties events skipped replies n (Begin p c) = (p < parties) × (IsInCall events skipped replies p n → ⊥)
ShouldRun parties events skipped replies n (Step p granted) = (p < parties) × IsInCall events skipped replies p n

-- the event n ran and fits, or was skipped and does not fit
abbrev pub IsExact : {T : Type 0} → ℕ → List (Event T) → List ℕ → List (ℕ × ℕ × Reply T) → ℕ → Event T → Type 0
IsExact parties events skipped replies n x =
    (ShouldRun parties events skipped replies n x × (Contains skipped n → ⊥)) ⊎ ((ShouldRun parties events skipped replies n x → ⊥) × Contains skipped n)

-- exactly the events that do not fit are skipped
abbrev pub SkippedIsExact : Type 0 → Type 0 → Type 0
SkippedIsExact T A = (cap : Option ℕ) (parties : ℕ) (events : List (Event T)) (r : Replay T A) → Conforms cap parties events r
    → (n : ℕ) (x : Event T) → slice_get events n ≡ Some x → IsExact parties events r.skipped.items r.replies.items n x
