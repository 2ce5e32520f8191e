-- How many calls are in progress.
use Rattle.std.proofs.Common.{ℕ, ◌+◌, ◌<◌, ◌≡◌, ◌≢◌, Option, Some, None, List, [], ◌∷◌, length, refl, ap, arith, get_or, set, replicate, zero, suc}
use Rattle.machine_memory.specs.Present.{present}

abbrev pub one_if : {X : Type 0} → Option X → ℕ
one_if None = 0
one_if (Some x) = 1

pub busy_set : {X : Type 0} (xs : List (Option X)) (p : ℕ) (x : Option X) → p < length xs → present (set xs p x) + one_if (get_or xs p None) ≡ present xs + one_if x
busy_set [] p x lt = absurd (omega arith)
busy_set (None ∷ xs) zero None lt = refl
busy_set (None ∷ xs) zero (Some x) lt = omega arith
busy_set (Some y ∷ xs) zero None lt = omega arith
busy_set (Some y ∷ xs) zero (Some x) lt = omega arith
busy_set (None ∷ xs) (suc p) x lt = busy_set xs p x (omega arith)
busy_set (Some y ∷ xs) (suc p) x lt = let e = busy_set xs p x (omega arith) in omega arith

none_busy : {X : Type 0} (xs : List (Option X)) (j : ℕ) → present xs ≡ 0 → get_or xs j None ≡ None
none_busy [] j e = refl
none_busy (None ∷ xs) zero e = refl
none_busy (Some x ∷ xs) j e = absurd (omega arith)
none_busy (None ∷ xs) (suc j) e = none_busy xs j e

-- where one call alone is in progress, every other party is between calls
pub one_busy : {X : Type 0} (xs : List (Option X)) (p j : ℕ) (x : X) → present xs ≡ 1 → get_or xs p None ≡ Some x → j ≢ p → get_or xs j None ≡ None
one_busy [] p j x e there ne = refl
one_busy (None ∷ xs) zero j x e there ne = cc
one_busy (Some y ∷ xs) zero zero x e there ne = absurd (ne refl)
one_busy (Some y ∷ xs) zero (suc j) x e there ne = none_busy xs j (omega arith)
one_busy (None ∷ xs) (suc p) zero x e there ne = refl
one_busy (None ∷ xs) (suc p) (suc j) x e there ne = one_busy xs p j x e there (λ s. ne (ap suc s))
one_busy (Some y ∷ xs) (suc p) j x e there ne = let none = none_busy xs p (omega arith) in cc

-- before the first call
pub none_are_busy : (X : Type 0) (parties : ℕ) → present {X = X} (replicate parties None) ≡ 0
none_are_busy X zero = refl
none_are_busy X (suc n) = none_are_busy X n

pub nobody_calls : {X : Type 0} (parties p : ℕ) → ◌≡◌ {A = Option X} (get_or (replicate parties None) p None) None
nobody_calls {X} parties p = none_busy (replicate parties None) p (none_are_busy X parties)
