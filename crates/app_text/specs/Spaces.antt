-- A text parted at its first space.
use Rattle.std.specs.Prelude.{ℕ, ◌==◌, if◌then◌else◌, List, [], ◌∷◌, Option, Some, None}

-- with this byte before the first part
abbrev pub with_first : ℕ → Option (List ℕ × List ℕ) → Option (List ℕ × List ℕ)
with_first b None = None
with_first b (Some p) = Some (b ∷ p.0, p.1)

-- what stands before and behind the first space, if there is one
abbrev pub parted : List ℕ → Option (List ℕ × List ℕ)
parted [] = None
parted (b ∷ bs) = if b == 32 then Some ([], bs) else with_first b (parted bs)
