-- One place of a list, written and written back.
use Rattle.std.proofs.Common.{◌≡◌, ◌⊎◌, inl, inr, ℕ, suc, zero, Some, List, [], ◌∷◌, length, refl, sym, ap, subst, arith}
use Rattle.std.specs.Prelude.{slice_get, slice_set, replicate, Any}

-- what stood there, written back
pub set_back : {X : Type 0} (xs : List X) (k : ℕ) (x y : X) → slice_get xs k ≡ Some x → slice_set (slice_set xs k y) k x ≡ xs
set_back [] k x y at = absurd (cc)
set_back (z ∷ xs) zero x y at = let same : z ≡ x = cc in cc
set_back (z ∷ xs) (suc k) x y at = ap (λ l. z ∷ l) (set_back xs k x y at)

-- a list of which each place is y
pub all_same : {X : Type 0} (xs : List X) (y : X) → ((k : ℕ) (x : X) → slice_get xs k ≡ Some x → x ≡ y) → xs ≡ replicate (length xs) y
all_same [] y all = refl
all_same (x ∷ xs) y all = let first : x ≡ y = all zero x refl in let others = all_same xs y (λ k z at. all (suc k) z at) in cc

-- a list of n places, each of which is as wanted
pub record Listed {X : Type 0} (P : ℕ → X → Type 0) (n : ℕ) : Type 0 where
  pub list : List X
  pub many : length list ≡ n
  pub each : (k : ℕ) (x : X) → slice_get list k ≡ Some x → P k x

with_first : {X : Type 0} (P : ℕ → X → Type 0) (n : ℕ) (x : X) → P zero x → Listed (λ k. P (suc k)) n → Listed P (suc n)
with_first {X} P n x p others = record { list = x ∷ others.list; many = ap suc others.many; each = each }
  where
    each : (k : ℕ) (y : X) → slice_get (x ∷ others.list) k ≡ Some y → P k y
    each zero y e = let same : x ≡ y = cc in subst (P zero) same p
    each (suc k) y e = others.each k y e

pub list_of : {X : Type 0} (P : ℕ → X → Type 0) (n : ℕ) → ((k : ℕ) → (x : X) × P k x) → Listed P n
list_of P zero pick = record { list = []; many = refl; each = λ k x at. absurd (cc) }
list_of P (suc n) pick = with_first P n (pick zero).0 (pick zero).1 (list_of (λ k. P (suc k)) n (λ k. pick (suc k)))

-- one of a list is its first or one of the others
pub any_cases : {X : Type 0} (P : X → Type 0) (x : X) (xs : List X) → Any P (x ∷ xs) → P x ⊎ Any P xs
any_cases P x xs (zero, y, lt, is, p) = inl (subst P (sym is) p)
any_cases P x xs (suc k, y, lt, is, p) = inr (k, y, omega arith, is, p)

pub any_none : {X : Type 0} (P : X → Type 0) → Any P [] → ⊥
any_none P (k, y, lt, is, p) = omega arith

-- of two writes of a place the second counts
pub set_twice : {X : Type 0} (xs : List X) (k : ℕ) (x y : X) → slice_set (slice_set xs k x) k y ≡ slice_set xs k y
set_twice [] k x y = refl
set_twice (z ∷ xs) zero x y = refl
set_twice (z ∷ xs) (suc k) x y = ap (λ l. z ∷ l) (set_twice xs k x y)
