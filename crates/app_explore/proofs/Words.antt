-- A word and the words behind it.
use Rattle.std.proofs.Common.{◌≡◌, ℕ, ◌-◌, ◌<◌, List, [], ◌∷◌, length, get_or, take, drop, arith}
use Rattle.std.proofs.lemmas.List.{take_rest}
use Rattle.app_text.specs.Reading.{IsWord}
use Rattle.app_explore.specs.Requests.{IsOutcomeNumber}

-- a list is its first element and what is behind it
pub front_of : {X : Type 0} (xs : List X) (a : X) → 0 < length xs → a ≡ get_or xs 0 a → xs ≡ a ∷ take (length xs - 1) (drop 1 xs)
front_of [] a some is = absurd (omega arith)
front_of (x ∷ xs) a some is = rw (take_rest (x ∷ xs) 1) cc

-- a list of one element is that alone
pub only_of : {X : Type 0} (xs : List X) (a : X) → 0 < length xs → length xs < 2 → a ≡ get_or xs 0 a → xs ≡ a ∷ []
only_of [] a some few is = absurd (omega arith)
only_of (x ∷ []) a some few is = cc
only_of (x ∷ y ∷ ys) a some few is = absurd (omega (arith, few))

pub outcome_word : (n : ℕ) → IsOutcomeNumber n → IsWord n
outcome_word n is = is.0
