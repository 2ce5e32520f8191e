-- When a party is in a call, told from the lists of a replay alone.
use Rattle.std.specs.Prelude.{◌≡◌, ◌⊎◌, ℕ, ◌<◌, ◌≤◌, Bool, Some, List, slice_get, Contains}
use Rattle.std.specs.List.{AllByRecursion}
use Rattle.machine_replay.specs.Vocabulary.{Call, Reply, Event, Begin, Step}

-- the event of this number is e, and it was not skipped
abbrev pub HasRun : {T : Type 0} → List (Event T) → List ℕ → ℕ → Event T → Type 0
HasRun events skipped n e = (slice_get events n ≡ Some e) × (Contains skipped n → ⊥)

-- the event of this number is a step of party p, and it was not skipped
abbrev pub IsStepOf : {T : Type 0} → List (Event T) → List ℕ → ℕ → ℕ → Type 0
IsStepOf events skipped p n = (granted : Bool) × HasRun events skipped n (Step p granted)

-- party p has no reply from the event `first` on, before the event `last`
abbrev pub IsUnanswered : {T : Type 0} → List (ℕ × ℕ × Reply T) → ℕ → ℕ → ℕ → Type 0
IsUnanswered replies p first last = AllByRecursion (λ y. y.1 ≡ p → (y.0 < first) ⊎ (last ≤ y.0)) replies

-- Before the event n party p is in a call: it began the call at an event that was not skipped, and has had no reply since. A call without steps
-- replies at the event at which it begins, so no party is ever in it.
pub record IsInCall {T : Type 0} (events : List (Event T)) (skipped : List ℕ) (replies : List (ℕ × ℕ × Reply T)) (p n : ℕ) : Type 0 where
  pub first : ℕ
  pub call : Call T
  pub begins : HasRun events skipped first (Begin p call)
  pub before : first < n
  pub unanswered : IsUnanswered replies p first n
