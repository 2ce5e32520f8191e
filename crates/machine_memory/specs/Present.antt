-- How many there are.
use Rattle.std.specs.Prelude.{ℕ, ◌+◌, Option, Some, None, List, [], ◌∷◌}

-- how many of these are there
abbrev pub present : {X : Type 0} → List (Option X) → ℕ
present [] = 0
present (None ∷ xs) = present xs
present (Some x ∷ xs) = present xs + 1
