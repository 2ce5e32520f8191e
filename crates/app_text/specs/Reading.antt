-- What it means to read a value from its text.
use Rattle.std.specs.Prelude.{◌≡◌, ◌≢◌, ℕ, ◌^◌, ◌<◌, Option}
use Rattle.std.specs.Option.{MatchOption}

-- what reading found: a value that has this text, or else that no value has it
abbrev pub IsReading : {V X : Type 0} → (V → Type 0) → (V → X) → X → Option V → Type 0
IsReading {V} IsValue text_of text found = MatchOption found ((v : V) → IsValue v → text_of v ≢ text) (λ v. IsValue v × (text_of v ≡ text))

-- a number that a word of 64 bits holds
abbrev pub IsWord : ℕ → Type 0
IsWord n = n < 2 ^ 64
