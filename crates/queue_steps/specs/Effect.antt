-- What a queue goes through: where each effect may stand, and the state that it leaves.
use Rattle.std.specs.Prelude.{◌≡◌, ℕ, ◌+◌, true, false, List, [], ◌∷◌, ◌++◌, Option, Some, None}
use Rattle.queue_steps.specs.{declared.sizes.TheConstants.LIMIT, declared.model.Effect.Effect, declared.model.Effect.Effect as effect, State.State, State.start, State.is_full, State.is_slot_cap, State.IsBelow}

-- the list without its front
abbrev pub rest : {T : Type 0} → List T → List T
rest [] = []
rest (x ∷ xs) = xs

-- the list with the item that is on its way in
abbrev pub with_coming : {T : Type 0} → List T → Option T → List T
with_coming xs None = xs
with_coming xs (Some v) = xs ++ v ∷ []

-- the effect may stand at this state
abbrev pub Fits : {T : Type 0} → Effect T → State T → Type 0
Fits (effect.Append v) Q = (Q.closed ≡ false) × (Q.coming ≡ None) × (is_full Q ≡ false) × IsBelow Q
Fits {T} (effect.Take v) Q = (others : List T) × (Q.items ≡ v ∷ others)
Fits (effect.Replace old v) Q = (Q.cap ≡ Some 1) × (Q.closed ≡ false) × (Q.items ≡ old ∷ [])
Fits {T} (effect.Front old v) Q = (is_slot_cap Q.cap ≡ false) × (is_full Q ≡ true) × (Q.coming ≡ None) × IsBelow Q × ((others : List T) × (Q.items ≡ old ∷ others))
Fits {T} effect.Arrive Q = (v : T) × (Q.coming ≡ Some v)
Fits effect.Close Q = Q.closed ≡ false
Fits effect.SelfClose Q = (Q.closed ≡ false) × (is_slot_cap Q.cap ≡ false) × (Q.accepted ≡ LIMIT)

-- the state that the effect leaves
abbrev pub made : {T : Type 0} → Effect T → State T → State T
made (effect.Append v) Q = record Q { items = Q.items ++ v ∷ []; accepted = Q.accepted + 1 }
made (effect.Take v) Q = record Q { items = rest Q.items }
made (effect.Replace old v) Q = record Q { items = v ∷ []; accepted = Q.accepted + 1 }
made (effect.Front old v) Q = record Q { items = rest Q.items; coming = Some v }
made effect.Arrive Q = record Q { items = with_coming Q.items Q.coming; coming = None; accepted = Q.accepted + 1 }
made effect.Close Q = record Q { closed = true }
made effect.SelfClose Q = record Q { closed = true }

-- each effect of the list may stand where it does
abbrev pub Runs : {T : Type 0} → State T → List (Effect T) → Type 0
Runs Q [] = Unit {0}
Runs Q (e ∷ es) = Fits e Q × Runs (made e Q) es

abbrev pub after_from : {T : Type 0} → State T → List (Effect T) → State T
after_from Q [] = Q
after_from Q (e ∷ es) = after_from (made e Q) es

-- a history of a queue of this capacity
abbrev pub IsHistory : {T : Type 0} → Option ℕ → List (Effect T) → Type 0
IsHistory cap es = Runs (start cap 0) es

-- the state after a history
abbrev pub after : {T : Type 0} → Option ℕ → List (Effect T) → State T
after cap es = after_from (start cap 0) es
