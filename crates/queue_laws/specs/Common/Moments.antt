-- The moments of a call, which are the states of the queue since its first step, and what was so at one of them.
use Rattle.std.proofs.Common.{ℕ, ◌+◌, ◌<◌, ◌≤◌, ◌≡◌, ◌⊎◌, List, [], ◌∷◌, length, Option}
use Rattle.queue_steps.specs.State.{State}

-- some moment was so
abbrev pub SeenIn : {A : Type 0} → List (State A) → (State A → Type 0) → Type 0
SeenIn [] P = ⊥
SeenIn (q ∷ qs) P = P q ⊎ SeenIn qs P

-- the state is a moment of each call that has taken its first step
abbrev pub seen_by : {A : Type 0} → State A → List (State A) → List (State A)
seen_by q [] = []
seen_by q (m ∷ ms) = q ∷ m ∷ ms

abbrev pub IsStarted : {A : Type 0} → List (State A) → Type 0
IsStarted [] = ⊥
IsStarted (m ∷ ms) = Unit {0}

-- a moment of a queue of this capacity at which h items had left, and at least q and at most so many as now were accepted
abbrev pub HeadWas : {A : Type 0} → Option ℕ → ℕ → ℕ → ℕ → State A → Type 0
HeadWas cap h q tail m = (m.cap ≡ cap) × (m.accepted ≡ h + length m.items) × (q ≤ m.accepted) × (m.accepted ≤ tail)

abbrev pub HasItems : {A : Type 0} → State A → Type 0
HasItems m = 0 < length m.items
