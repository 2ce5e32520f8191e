-- Texts in a row.
use Rattle.std.specs.Prelude.{ℕ, List, ◌∷◌, map}
use Rattle.std.specs.List.{join_with_byte}

-- the texts, each behind a space, with a semicolon between each two
abbrev pub listed : {X : Type 0} → (X → List ℕ) → List X → List ℕ
listed text_of xs = join_with_byte 59 (map (λ x. 32 ∷ text_of x) xs)
