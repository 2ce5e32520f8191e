-- A pool of numbered places, as contracts see it.
use Rattle.std.specs.Prelude.{◌≡◌, ◌≢◌, ◌↔◌, ℕ, zero, suc, ◌+◌, ◌<◌, List, [], ◌∷◌, ◌++◌, Option, Some, None}
use Rattle.std.specs.List.{Contains}

-- how many places there are, those that are free, the next one first, and how many were ever put in
pub record Places : Type 0 where
  pub count : ℕ
  pub free : List ℕ
  pub put_in : ℕ

-- the numbers below n, in order
abbrev pub numbers : ℕ → List ℕ
numbers zero = []
numbers (suc n) = numbers n ++ n ∷ []

-- a taker has the place
abbrev pub IsOut : Places → ℕ → Type 0
IsOut pool place = (place < pool.count) × ¬ Contains pool.free place

abbrev pub AllOut : Places → Type 0
AllOut pool = (place : ℕ) → place < pool.count → IsOut pool place

-- every other place is out if and only if it was
abbrev pub OthersStay : Places → Places → ℕ → Type 0
OthersStay old new place = (other : ℕ) → other ≢ place → IsOut old other ↔ IsOut new other

-- a place that was free is out then
pub record Takes (old : Places) (place : ℕ) (new : Places) : Type 0 where
  pub next : old ≡ record new { free = place ∷ new.free }
  pub was_free : (place < old.count) × ¬ IsOut old place
  pub now_out : IsOut new place
  pub others : OthersStay old new place

-- a free place is taken, or all are out
abbrev pub TakesOne : Places → Option ℕ → Places → Type 0
TakesOne old None new = AllOut old × (new ≡ old)
TakesOne old (Some place) new = Takes old place new

-- a place that was out is free then
pub record GivesBack (old : Places) (place : ℕ) (new : Places) : Type 0 where
  pub last : new ≡ record old { free = old.free ++ place ∷ []; put_in = old.put_in + 1 }
  pub now_free : ¬ IsOut new place
  pub others : OthersStay old new place
