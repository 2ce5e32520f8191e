-- Sums over lists of views.
use Rattle.std.proofs.Common.{◌≡◌, ℕ, zero, suc, ◌+◌, ◌*◌, ◌<◌, ◌≤◌, ◌≢◌, ◌==◌, if◌then◌else◌, List, [], ◌∷◌, ◌++◌, set, refl, ap, sym, ◌∙◌, arith}
use Rattle.std.proofs.{Math.Nat.zero-mul, Math.Nat.add-mul, lemmas.List.Sums.sum_by-append, lemmas.Bool.Decides.nat_tests}
use mathlib.Core.{Bool.cond, Option.some, Option.some-injective, Option.some-ne-none}
use lib.ListN.{get_elem?}
use Rattle.shared_parties.{specs.Counting.times, specs.Counting.once_below, specs.Known.total, proofs.Counting.times_cons}

module _ {A : Type 0} (f : A → ℕ) where
  pub total_set : (l : List A) (i : ℕ) (a b : A) → get_elem? l i ≡ some a → total f (set l i b) + f a ≡ total f l + f b
  total_set [] i a b e = absurd (some-ne-none a (sym e))
  total_set (x ∷ xs) zero a b e = let p = ap f (some-injective x a e) in omega arith
  total_set (x ∷ xs) (suc i) a b e = omega (arith, total_set xs i a b e)

  pub total_snoc : (l : List A) (a : A) → total f (l ++ a ∷ []) ≡ total f l + f a
  total_snoc [] a = omega arith
  total_snoc (x ∷ xs) a = omega (arith, total_snoc xs a)

  pub total_at : (l : List A) (i : ℕ) (a : A) → get_elem? l i ≡ some a → f a ≤ total f l
  total_at [] i a e = absurd (some-ne-none a (sym e))
  total_at (x ∷ xs) zero a e = let p = ap f (some-injective x a e) in omega arith
  total_at (x ∷ xs) (suc i) a e = omega (arith, total_at xs i a e)

  pub total_two : (l : List A) (i j : ℕ) (a b : A) → get_elem? l i ≡ some a → get_elem? l j ≡ some b → j ≢ i → f a + f b ≤ total f l
  total_two [] i j a b e e' n = absurd (some-ne-none a (sym e))
  total_two (x ∷ xs) zero zero a b e e' n = absurd (n refl)
  total_two (x ∷ xs) zero (suc j) a b e e' n = let p = ap f (some-injective x a e) in omega (arith, total_at xs j b e')
  total_two (x ∷ xs) (suc i) zero a b e e' n = let p = ap f (some-injective x b e') in omega (arith, total_at xs i a e)
  total_two (x ∷ xs) (suc i) (suc j) a b e e' n = omega (arith, total_two xs i j a b e e' (λ same. n (ap suc same)))

  module _ (g : A → ℕ) where
    pub total_most : (l : List A) → ((j : ℕ) (v : A) → get_elem? l j ≡ some v → f v ≤ g v) → total f l ≤ total g l
    total_most [] h = omega arith
    total_most (x ∷ xs) h = omega (arith, h 0 x refl, total_most xs (λ j v e. h (suc j) v e))

    pub total_none : (l : List A) → ((j : ℕ) (v : A) → get_elem? l j ≡ some v → g v ≡ 0 → f v ≡ 0) → total g l ≡ 0 → total f l ≡ 0
    total_none [] h z = refl
    total_none (x ∷ xs) h z = omega (arith, h 0 x refl (omega arith), total_none xs (λ j v e. h (suc j) v e) (omega arith))

    -- where one has all of g, it has all of f
    pub total_alone : (l : List A) (i : ℕ) (a : A) → get_elem? l i ≡ some a → ((j : ℕ) (v : A) → get_elem? l j ≡ some v → g v ≡ 0 → f v ≡ 0) → total g l ≤ g a → total f l ≡ f a
    total_alone [] i a e h all = absurd (some-ne-none a (sym e))
    total_alone (x ∷ xs) zero a e h all = let p = ap f (some-injective x a e) in let q = ap g (some-injective x a e) in omega (arith, total_none xs (λ j v e. h (suc j) v e) (omega arith))
    total_alone (x ∷ xs) (suc i) a e h all = let n = total_at' xs i a e in omega (arith, h 0 x refl (omega arith), total_alone xs i a e (λ j v e. h (suc j) v e) (omega arith))
      where
        total_at' : (l : List A) (i : ℕ) (a : A) → get_elem? l i ≡ some a → g a ≤ total g l
        total_at' [] i a e = absurd (some-ne-none a (sym e))
        total_at' (x ∷ xs) zero a e = let p = ap g (some-injective x a e) in omega arith
        total_at' (x ∷ xs) (suc i) a e = omega (arith, total_at' xs i a e)

module _ {A : Type 0} (f g : A → ℕ) (c : ℕ) where
  -- where each is c times as much, so is the sum
  pub total_times : (l : List A) → ((j : ℕ) (v : A) → get_elem? l j ≡ some v → g v ≡ f v * c) → total g l ≡ total f l * c
  total_times [] h = sym (zero-mul c)
  total_times (x ∷ xs) h = (λ i. h 0 x refl i + total_times xs (λ j v e. h (suc j) v e) i) ∙ sym (add-mul (f x) (total f xs) c)

pub times_append : (p : ℕ) (xs ys : List ℕ) → times p (xs ++ ys) ≡ times p xs + times p ys
times_append p xs ys = sum_by-append (λ x. cond (x == p) 1 0) xs ys

pub times_snoc : (p : ℕ) (xs : List ℕ) (k : ℕ) → times p (xs ++ k ∷ []) ≡ times p xs + (if k == p then 1 else 0)
times_snoc p xs k = omega (arith, times_append p xs (k ∷ []), times_cons p k [])

pub once_more : (p n : ℕ) → once_below p (n + 1) ≡ once_below p n + (if n == p then 1 else 0)
once_more p n = grind (arith, nat_tests)

pub once_none : (p : ℕ) → once_below p 0 ≡ 0
once_none p = grind (arith, nat_tests)

pub once_when : (p n : ℕ) → p < n → once_below p n ≡ 1
once_when p n h = grind (arith, nat_tests)

pub once_most : (p n : ℕ) → once_below p n ≤ 1
once_most p n = grind (arith, nat_tests)
