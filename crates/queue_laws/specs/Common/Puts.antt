-- A function of numbers with another value at one number.
use Rattle.std.proofs.Common.{ℕ, ◌==◌, if◌then◌else◌}

abbrev pub put : {X : Type 0} → (ℕ → X) → ℕ → X → ℕ → X
put f i x = λ j. if j == i then x else f j
