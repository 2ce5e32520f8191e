-- The history in which each displacement is one moment.
use Rattle.std.specs.Prelude.{◌≡◌, ◌⊎◌, ℕ, ◌+◌, false, List, [], ◌∷◌, ◌++◌, Option, Some, None}
use mathlib.Core.List.{IsPrefix}
use Rattle.queue_steps.specs.{State.State, State.start, Effect.Fits, Effect.made, Effect.with_coming, Effect.IsHistory, Effect.after, Replies.Allows}
use Rattle.queue_laws.specs.Common.Vocabulary.{Call, Reply, Effect}
pub use Rattle.queue_steps.specs.Looks.{IsGlance}

-- each effect may stand where it does, and each displacement is one moment of an open queue: a front, and behind it at once its arrive
abbrev pub RunsAtOnce : {T : Type 0} → State T → List (Effect T) → Type 0
RunsAtOnce Q [] = Unit {0}
RunsAtOnce Q (Effect.Front old v ∷ Effect.Arrive ∷ es) = (Q.closed ≡ false) × Fits (Effect.Front old v) Q × RunsAtOnce (made Effect.Arrive (made (Effect.Front old v) Q)) es
RunsAtOnce Q (Effect.Front old v ∷ es) = ⊥
RunsAtOnce Q (Effect.Arrive ∷ es) = ⊥
RunsAtOnce Q (e ∷ es) = Fits e Q × RunsAtOnce (made e Q) es

-- a history of a queue of this capacity whose displacements are moments
abbrev pub IsAtOnce : {T : Type 0} → Option ℕ → List (Effect T) → Type 0
IsAtOnce cap es = RunsAtOnce (start cap 0) es

-- the displacements of a history, each of them whole
abbrev pub displacements : {T : Type 0} → List (Effect T) → List (Effect T)
displacements [] = []
displacements (Effect.Front old v ∷ es) = Effect.Front old v ∷ Effect.Arrive ∷ displacements es
displacements (e ∷ es) = displacements es

-- the other effects
abbrev pub others : {T : Type 0} → List (Effect T) → List (Effect T)
others [] = []
others (Effect.Front old v ∷ es) = others es
others (Effect.Arrive ∷ es) = others es
others (e ∷ es) = e ∷ others es

-- What is settled after the effects es of the history es ++ next: each arrive stands at its front, and what is displaced after a close is displaced just before it.
abbrev pub settled : {T : Type 0} → List (Effect T) → List (Effect T) → List (Effect T)
settled [] next = []
settled (Effect.Front old v ∷ es) next = Effect.Front old v ∷ Effect.Arrive ∷ settled es next
settled (Effect.Arrive ∷ es) next = settled es next
settled (Effect.Close ∷ es) next = displacements (es ++ next) ++ Effect.Close ∷ others es
settled (e ∷ es) next = e ∷ settled es next

-- one accepted item more, if one is on its way in
abbrev pub with_one : {T : Type 0} → Option T → ℕ → ℕ
with_one None n = n
with_one (Some v) n = n + 1

-- the state once the item on its way in has arrived
abbrev pub arrived : {T : Type 0} → State T → State T
arrived Q = record Q { items = with_coming Q.items Q.coming; coming = None; accepted = with_one Q.coming Q.accepted }

-- A history settles into one whose displacements are moments, beginning by beginning: it leaves the same, once all has arrived, and what a call may be answered without effect after a beginning
-- it may be answered after the settled beginning; but not a glance while an item is on its way in.
pub record OneMoment {T : Type 0} (cap : Option ℕ) (es next : List (Effect T)) : Type 0 where
  pub legal : IsAtOnce cap (settled es next)
  pub calm : (after cap (settled es next)).coming ≡ None
  pub begins : IsPrefix (settled es next) (settled (es ++ next) [])
  pub same : (displacements next ≡ []) ⊎ ((after cap es).closed ≡ false) → after cap (settled es next) ≡ arrived (after cap es)
  pub right : (c : Call T) (r : Reply T) → Allows c r (after cap es) → (IsGlance c → (after cap es).coming ≡ None) → Allows c r (after cap (settled es next))

abbrev pub DisplacesAtOnce : Type 0 → Type 0
DisplacesAtOnce T = (cap : Option ℕ) (es next : List (Effect T)) → IsHistory cap (es ++ next) → OneMoment cap es next

-- such a history is a history
abbrev pub AtOnceIsLegal : Type 0 → Type 0
AtOnceIsLegal T = (cap : Option ℕ) (es : List (Effect T)) → IsAtOnce cap es → IsHistory cap es
