-- How often a place stands in a list.
use Rattle.std.proofs.Common.{ℕ, ◌==◌, if◌then◌else◌, nat_lt, List}
use Rattle.std.specs.List.{count_by}

-- how often the place stands in the list
abbrev pub times : ℕ → List ℕ → ℕ
times p xs = count_by (λ x. x == p) xs

-- one for each place of a history of this length
abbrev pub once_below : ℕ → ℕ → ℕ
once_below p n = if nat_lt p n then 1 else 0
