-- What every history of a queue keeps.
use Rattle.std.specs.Prelude.{◌≡◌, ℕ, ◌+◌, cond, List, [], ◌∷◌, ◌++◌, length, Option, Err}
use mathlib.Core.List.{IsPrefix}
use Rattle.queue_steps.specs.{State.State, Effect.Runs, Effect.IsHistory, Effect.after, Effect.with_coming, Replies.IsRightAt, Replies.Tells, Parties.View, Parties.SharedCall}
use Rattle.queue_laws.specs.Common.Vocabulary.{Call, Reply, Effect, PopError}

-- the items that were handed in, in their order: appended, in the place of another, or on their way in
abbrev pub handed_in : {T : Type 0} → List (Effect T) → List T
handed_in [] = []
handed_in (Effect.Append v ∷ es) = v ∷ handed_in es
handed_in (Effect.Replace old v ∷ es) = v ∷ handed_in es
handed_in (Effect.Front old v ∷ es) = v ∷ handed_in es
handed_in (e ∷ es) = handed_in es

-- the items that were handed out, in their order: taken by a pop, or displaced by a forced push
abbrev pub handed_out : {T : Type 0} → List (Effect T) → List T
handed_out [] = []
handed_out (Effect.Take v ∷ es) = v ∷ handed_out es
handed_out (Effect.Replace old v ∷ es) = old ∷ handed_out es
handed_out (Effect.Front old v ∷ es) = old ∷ handed_out es
handed_out (e ∷ es) = handed_out es

-- how often the queue was closed, by a close or of itself
abbrev pub closings : {T : Type 0} → List (Effect T) → ℕ
closings [] = 0
closings (Effect.Close ∷ es) = closings es + 1
closings (Effect.SelfClose ∷ es) = closings es + 1
closings (e ∷ es) = closings es

-- the accepted items are those that were handed out, and behind them those of the list; an item on its way in is behind these, and is not accepted yet
abbrev pub KeepsAll : Type 0 → Type 0
KeepsAll T = (cap : Option ℕ) (es : List (Effect T)) → IsHistory cap es
    → (handed_in es ≡ handed_out es ++ with_coming (after cap es).items (after cap es).coming) × ((after cap es).accepted ≡ length (handed_out es ++ (after cap es).items))

-- what was handed out is a beginning of what was handed in
abbrev pub KeepsOrder : Type 0 → Type 0
KeepsOrder T = (cap : Option ℕ) (es : List (Effect T)) → IsHistory cap es → IsPrefix (handed_out es) (handed_in es)

-- one closing if the queue is closed then, and else none: no second close, and none beside a closing of itself
abbrev pub ClosesOnce : Type 0 → Type 0
ClosesOnce T = (cap : Option ℕ) (es : List (Effect T)) → IsHistory cap es → closings es ≡ cond (after cap es).closed 1 0

-- a pop may answer that the queue is closed
abbrev pub IsDrained : {T : Type 0} → State T → Type 0
IsDrained Q = IsRightAt Q Call.Pop (Reply.Pop (Err PopError.Closed))

-- no effect stands behind such a state
abbrev pub EndsOnceDrained : Type 0 → Type 0
EndsOnceDrained T = (Q : State T) (es : List (Effect T)) → IsDrained Q → Runs Q es → es ≡ []

-- a party that has seen such a history has seen all of it, and what its calls are answered stands for no effect
abbrev pub EndsForParties : Type 0 → Type 0
EndsForParties T = (cap : Option ℕ) (h : List (Effect T)) (v w : View T) (c : Call T) (r : Reply T) → IsDrained (after cap h) → IsPrefix h v.seen → SharedCall cap v w c r → (w.seen ≡ h) × Tells c r []
