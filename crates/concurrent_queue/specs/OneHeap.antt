-- Allocators of which there is one value.
use Rattle.std.specs.Prelude.{◌≡◌}

-- any two values are the same, so that a block that one of them gave may be given back to another
abbrev pub IsOneHeap : Type 0 → Type 0
IsOneHeap A = (a b : A) → a ≡ b
