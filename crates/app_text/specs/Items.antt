-- What is printed of items.
use Rattle.std.specs.Prelude.{ℕ, List, ◌∷◌, flat_map}
use Rattle.std.specs.Fmt.{decimal}

-- the items, each behind a space
abbrev pub items_text : List ℕ → List ℕ
items_text items = flat_map (λ n. 32 ∷ decimal n) items
