-- What is printed of the items that are left.
use Rattle.std.specs.Prelude.{ℕ, List, [], ◌∷◌, ◌++◌, codes}
use Rattle.app_text.specs.Items.{items_text}

-- the last line
abbrev pub left_text : List ℕ → List ℕ
left_text items = codes "left" ++ items_text items ++ 10 ∷ []
