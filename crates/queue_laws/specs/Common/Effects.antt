-- What a step does to the queue, and what it touches.
use Rattle.std.proofs.Common.{◌≡◌, ℕ, Bool, true, false, Option, Some, None, List, [], ◌∷◌, ◌++◌}
use Rattle.queue_steps.specs.{State.State, Effect.Fits, Effect.made}
use Rattle.queue_laws.specs.Common.Vocabulary.{Effect, Touch}

-- the step has no effect and leaves the queue, or has this effect, which fits there
abbrev pub Leads : {A : Type 0} → State A → Option (Effect A) → State A → Type 0
Leads Q None R = R ≡ Q
Leads Q (Some e) R = Fits e Q × (R ≡ made e Q)

-- the call's effects then
abbrev pub with_effect : {A : Type 0} → List (Effect A) → Option (Effect A) → List (Effect A)
with_effect es None = es
with_effect es (Some e) = es ++ e ∷ []

-- a front is made only by a call that saw the queue open
abbrev pub MayFront : {A : Type 0} → Option (Effect A) → Bool → Type 0
MayFront (Some (Effect.Front old v)) was = was ≡ true
MayFront _ was = Unit {0}

-- a front that left first left an open queue
abbrev pub FrontOpen : {A : Type 0} → State A → List (Effect A) → Type 0
FrontOpen Q (Effect.Front old v ∷ es) = Q.closed ≡ false
FrontOpen Q _ = Unit {0}

-- one of two facts, by a test
abbrev pub Whether : Bool → Type 0 → Type 0 → Type 0
Whether true P Q = P
Whether false P Q = Q

-- the call has taken the front off, and its own item has not arrived
abbrev pub IsBetween : {A : Type 0} → List (Effect A) → Type 0
IsBetween (Effect.Front old v ∷ []) = Unit {0}
IsBetween _ = ⊥

-- the touch is one of the slot i
abbrev pub Touches : Touch → ℕ → Type 0
Touches Touch.Nothing i = ⊥
Touches (Touch.Put k) i = k ≡ i
Touches (Touch.Swap k) i = k ≡ i
Touches (Touch.Take k) i = k ≡ i
