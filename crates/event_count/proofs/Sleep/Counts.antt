-- How many of a list are such, once one of it is another.
use Rattle.std.proofs.Common.{◌≡◌, ◌≢◌, ◌⊎◌, inl, inr, ℕ, zero, suc, ◌+◌, ◌≤◌, Bool, true, false, cond, Some, List, [], ◌∷◌, map, replicate, count_by, slice_get, slice_set, refl, ap, subst, arith}
use Rattle.std.proofs.lemmas.{List.Sums.sum_by-cons, List.Sums.sum_by-set, List.Sums.get_or-le-sum_by, Option.slice_get_within, Option.get_or_from_slice_get}

abbrev pub one : {X : Type 0} → (X → Bool) → X → ℕ
one f x = cond (f x) 1 0

pub count_cons : {X : Type 0} (f : X → Bool) (x : X) (xs : List X) → count_by f (x ∷ xs) ≡ one f x + count_by f xs
count_cons f x xs = sum_by-cons (λ y. cond (f y) 1 0) x xs

pub count_set : {X : Type 0} (f : X → Bool) (xs : List X) (k : ℕ) (x y : X) → slice_get xs k ≡ Some x → count_by f (slice_set xs k y) + one f x ≡ count_by f xs + one f y
count_set f xs k x y at =
    subst (λ z. count_by f (slice_set xs k y) + one f z ≡ count_by f xs + one f y) (get_or_from_slice_get xs k x x at)
    (sum_by-set (λ z. cond (f z) 1 0) xs k y x (slice_get_within xs k x at))

pub count_at : {X : Type 0} (f : X → Bool) (xs : List X) (k : ℕ) (x : X) → slice_get xs k ≡ Some x → one f x ≤ count_by f xs
count_at f xs k x at = subst (λ z. one f z ≤ count_by f xs) (get_or_from_slice_get xs k x x at) (get_or-le-sum_by (λ z. cond (f z) 1 0) xs k x (slice_get_within xs k x at))

pub count_le : {X : Type 0} (f g : X → Bool) → ((x : X) → one f x ≤ one g x) → (xs : List X) → count_by f xs ≤ count_by g xs
count_le f g le [] = omega arith
count_le f g le (x ∷ xs) = let rest = count_le f g le xs in let here = le x in let a = count_cons f x xs in let b = count_cons g x xs in omega (arith, rest, here, a, b)

pub count_map : {X : Type 0} (f : X → Bool) (h : X → X) → ((x : X) → one f (h x) ≡ one f x) → (xs : List X) → count_by f (map h xs) ≡ count_by f xs
count_map f h same [] = refl
count_map f h same (x ∷ xs) = let rest = count_map f h same xs in let here = same x in let a = count_cons f (h x) (map h xs) in let b = count_cons f x xs in omega (arith, rest, here, a, b)

pub count_none : {X : Type 0} (f : X → Bool) (xs : List X) → ((k : ℕ) (x : X) → slice_get xs k ≡ Some x → one f x ≡ 0) → count_by f xs ≡ 0
count_none f [] each = refl
count_none f (x ∷ xs) each = let rest = count_none f xs (λ k y at. each (suc k) y at) in let here = each 0 x refl in let a = count_cons f x xs in omega (arith, rest, here, a)

pub some_counted : {X : Type 0} (f : X → Bool) (xs : List X) → 1 ≤ count_by f xs → (k : ℕ) × (x : X) × (slice_get xs k ≡ Some x) × (f x ≡ true)
some_counted f [] le = absurd (omega arith)
some_counted {X} f (x ∷ xs) le =
    elim (f x) as (λ b. f x ≡ b → (k : ℕ) × (y : X) × (slice_get (x ∷ xs) k ≡ Some y) × (f y ≡ true)) [
      | true ↦ λ is. (0, x, refl, is)
      | false ↦ λ is.
          let here : one f x ≡ 0 = ap (λ b. cond b 1 0) is in
          let all = count_cons f x xs in
          let more : 1 ≤ count_by f xs = omega (arith, here, all, le) in
          let r = some_counted f xs more in (suc r.0, r.1, r.2, r.3)
    ] refl

pub set_get : {X : Type 0} (xs : List X) (k i : ℕ) (y z : X) → slice_get (slice_set xs k y) i ≡ Some z → (z ≡ y) ⊎ (slice_get xs i ≡ Some z)
set_get [] k i y z e = inr e
set_get (x ∷ xs) zero zero y z e = inl (cc)
set_get (x ∷ xs) zero (suc i) y z e = inr e
set_get (x ∷ xs) (suc k) zero y z e = inr e
set_get (x ∷ xs) (suc k) (suc i) y z e = set_get xs k i y z e

pub set_other : {X : Type 0} (xs : List X) (k i : ℕ) (y : X) → i ≢ k → slice_get (slice_set xs k y) i ≡ slice_get xs i
set_other [] k i y ne = refl
set_other (x ∷ xs) zero zero y ne = absurd (ne refl)
set_other (x ∷ xs) zero (suc i) y ne = refl
set_other (x ∷ xs) (suc k) zero y ne = refl
set_other (x ∷ xs) (suc k) (suc i) y ne = set_other xs k i y (λ e. ne (ap suc e))

pub map_get : {X : Type 0} (h : X → X) (xs : List X) (i : ℕ) (z : X) → slice_get (map h xs) i ≡ Some z → (x : X) × (slice_get xs i ≡ Some x) × (z ≡ h x)
map_get h [] i z e = cc
map_get h (x ∷ xs) zero z e = (x, refl, (cc))
map_get h (x ∷ xs) (suc i) z e = map_get h xs i z e

pub map_at : {X : Type 0} (h : X → X) (xs : List X) (i : ℕ) (x : X) → slice_get xs i ≡ Some x → slice_get (map h xs) i ≡ Some (h x)
map_at h [] i x e = cc
map_at h (y ∷ xs) zero x e = cc
map_at h (y ∷ xs) (suc i) x e = map_at h xs i x e

pub replicate_get : {X : Type 0} (n k : ℕ) (x y : X) → slice_get (replicate n x) k ≡ Some y → y ≡ x
replicate_get zero k x y e = cc
replicate_get (suc n) zero x y e = cc
replicate_get (suc n) (suc k) x y e = replicate_get n k x y e
