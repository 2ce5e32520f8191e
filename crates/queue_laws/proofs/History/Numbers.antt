-- Numbers below a bound, none of them twice: there are no more than the bound says, and where each number is one of them, a sum over them is one over all numbers.
use Rattle.std.proofs.Common.{◌≡◌, ◌≢◌, ℕ, zero, suc, ◌+◌, ◌<◌, ◌≤◌, Bool, true, false, not, cond, List, [], ◌∷◌, length, refl, ap, sym, ◌∙◌, inl, inr, arith}
use Rattle.std.specs.List.{All, AllPairs, Contains, filter, sum_by}
use Rattle.std.proofs.{lemmas.Bool.Decides.eqb_tells, lemmas.List.Filters.length-filter_both, lemmas.List.Filters.sum_by-filter_both, lemmas.List.Kept.AllPairs-filter, lemmas.List.Sums.sum_by-cons, lemmas.Map.Made.Contains-tail, Math.Dec.eqb}
use Rattle.std.proofs.lemmas.List.Elements.{All-filter, filter_passes, Contains-append_right}
use mathlib.Core.Logic.{dite}
use native.Mathlib.Decide.{ℕ_discrete}

-- none of them is twice in the list
abbrev pub AreDistinct : List ℕ → Type 0
AreDistinct xs = AllPairs (λ p q. p ≢ q) xs

-- the sum over all numbers below n
abbrev pub sum_below : (ℕ → ℕ) → ℕ → ℕ
sum_below f zero = 0
sum_below f (suc n) = sum_below f n + f n

abbrev is : ℕ → ℕ → Bool
is n x = eqb x n

abbrev is_not : ℕ → ℕ → Bool
is_not n x = not (eqb x n)

kept_in : (b : Bool) (y : ℕ) (zs : List ℕ) (x : ℕ) → Contains zs x → Contains (cond b (y ∷ zs) zs) x
kept_in true y zs x has = Contains-append_right (y ∷ []) zs x has
kept_in false y zs x has = has

first_in : (b : Bool) (y : ℕ) (zs : List ℕ) (x : ℕ) → b ≡ true → y ≡ x → Contains (cond b (y ∷ zs) zs) x
first_in true y zs x e same = (0, omega arith, same)
first_in false y zs x e same = cc

contains_filter : (p : ℕ → Bool) (xs : List ℕ) (x : ℕ) → p x ≡ true → Contains xs x → Contains (filter p xs) x
contains_filter p [] x hit has = absurd (let lt = has.1 in omega arith)
contains_filter p (y ∷ ys) x hit has =
    dite (ℕ_discrete y x) (λ (same : y ≡ x). first_in (p y) y (filter p ys) x (ap p same ∙ hit) same)
    (λ (other : y ≢ x). kept_in (p y) y (filter p ys) x (contains_filter p ys x hit (Contains-tail y ys x other has)))

same_by : (x n : ℕ) → eqb x n ≡ true → x ≡ n
same_by x n e = elim (eqb_tells x n) [ inl h ↦ h.1 | inr h ↦ absurd (let no = h.0 in cc) ]

other_by : (x n : ℕ) → not (eqb x n) ≡ true → x ≢ n
other_by x n e = elim (eqb_tells x n) [ inl h ↦ absurd (let no : not (eqb x n) ≡ false = ap not h.0 in cc) | inr h ↦ h.1 ]

is_not_other : (x n : ℕ) → x ≢ n → not (eqb x n) ≡ true
is_not_other x n ne = elim (eqb_tells x n) [ inl h ↦ absurd (ne h.1) | inr h ↦ ap not h.0 ]

is_itself : (n : ℕ) → eqb n n ≡ true
is_itself n = elim (eqb_tells n n) [ inl h ↦ h.0 | inr h ↦ absurd (h.1 refl) ]

-- those that are not n, of numbers up to n
below_rest : (n : ℕ) (xs : List ℕ) → All (λ x. x < suc n) xs → All (λ x. x < n) (filter (is_not n) xs)
below_rest n xs all = λ k d lt.
    let low = All-filter (is_not n) (λ x. x < suc n) xs all k d lt in let other = other_by _ n (filter_passes (is_not n) xs k d lt) in omega (arith, low, other)

few_same : (n : ℕ) (xs : List ℕ) → All (λ x. eqb x n ≡ true) xs → AreDistinct xs → length xs ≤ 1
few_same n (x ∷ y ∷ xs) same once = absurd (once 0 1 x (omega arith) (omega arith) (same_by x n (same 0 x (omega arith)) ∙ sym (same_by y n (same 1 x (omega arith)))))
few_same n xs same once = omega arith

only_one : (n : ℕ) (xs : List ℕ) → All (λ x. eqb x n ≡ true) xs → length xs ≤ 1 → Contains xs n → xs ≡ n ∷ []
only_one n [] same few has = absurd (let lt = has.1 in omega arith)
only_one n (x ∷ []) same few has = ap (λ (y : ℕ). y ∷ []) (same_by x n (same 0 x (omega arith)))
only_one n (x ∷ y ∷ xs) same few has = absurd (omega arith)

pub distinct_few : (n : ℕ) (xs : List ℕ) → All (λ x. x < n) xs → AreDistinct xs → length xs ≤ n
distinct_few zero [] all once = omega arith
distinct_few zero (x ∷ xs) all once = absurd (let no = all 0 x (omega arith) in omega arith)
distinct_few (suc n) xs all once =
    let few = distinct_few n (filter (is_not n) xs) (below_rest n xs all) (AllPairs-filter (λ p q. p ≢ q) (is_not n) xs once) in
    let one = few_same n (filter (is n) xs) (filter_passes (is n) xs) (AllPairs-filter (λ p q. p ≢ q) (is n) xs once) in
    let both = length-filter_both (is n) (is_not n) (λ x. refl) xs in omega (arith, few, one, both)

pub sum_covering : (f : ℕ → ℕ) (n : ℕ) (xs : List ℕ) → All (λ x. x < n) xs → AreDistinct xs → ((x : ℕ) → x < n → Contains xs x) → sum_by f xs ≡ sum_below f n
sum_covering f zero [] all once every = refl
sum_covering f zero (x ∷ xs) all once every = absurd (let no = all 0 x (omega arith) in omega arith)
sum_covering f (suc n) xs all once every =
    let rest = sum_covering f n (filter (is_not n) xs) (below_rest n xs all) (AllPairs-filter (λ p q. p ≢ q) (is_not n) xs once)
    (λ x lt. contains_filter (is_not n) xs x (is_not_other x n (λ same. omega (arith, lt, same))) (every x (omega (arith, lt)))) in
    let same = filter_passes (is n) xs in
    let one : filter (is n) xs ≡ n ∷ [] =
    only_one n (filter (is n) xs) same (few_same n (filter (is n) xs) same (AllPairs-filter (λ p q. p ≢ q) (is n) xs once)) (contains_filter (is n) xs n (is_itself n) (every n (omega arith))) in
    let here : sum_by f (filter (is n) xs) ≡ f n + 0 = ap (sum_by f) one ∙ sum_by-cons f n [] in
    let both = sum_by-filter_both (is n) (is_not n) (λ x. refl) f xs in omega (arith, rest, here, both)

-- the first term, and then the others
pub sum_first : (f : ℕ → ℕ) (n : ℕ) → sum_below f (suc n) ≡ f 0 + sum_below (λ k. f (suc k)) n
sum_first f zero = omega arith
sum_first f (suc n) = let before = sum_first f n in omega (arith, before)
