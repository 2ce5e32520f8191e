-- What it means to read a value from its text, or to say why none has it.
use Rattle.std.specs.Prelude.{◌≡◌, ◌≢◌, Result, MatchResult}

-- what reading found: a value that has this text, or else that no value has it, and why
abbrev pub IsParsing : {V X E : Type 0} → (V → Type 0) → (V → X) → (X → E → Type 0) → X → Result V E → Type 0
IsParsing {V} IsValue text_of IsWhy text found = MatchResult found (λ v. IsValue v × (text_of v ≡ text)) (λ why. ((v : V) → IsValue v → text_of v ≢ text) × IsWhy text why)
