-- Which places a list has, by how often each stands in it.
use Rattle.std.proofs.Common.{◌≡◌, ◌≢◌, ℕ, zero, suc, ◌+◌, ◌<◌, ◌≤◌, ◌==◌, if◌then◌else◌, List, [], ◌∷◌, arith}
use Rattle.std.specs.List.{All, AllPairs, Contains}
use Rattle.std.proofs.lemmas.{Bool.Decides.nat_tests, List.Elements.All-weaker, List.Elements.All-contains_itself, List.Kept.AllPairs-cons, List.Sums.sum_by-append}
use mathlib.Core.{Bool.cond, Logic.dite}
use native.Mathlib.Decide.{ℕ_discrete}
use Rattle.shared_parties.specs.Counting.{times, once_below}

pub times_cons : (p x : ℕ) (xs : List ℕ) → times p (x ∷ xs) ≡ (if x == p then 1 else 0) + times p xs
times_cons p x xs = omega (arith, sum_by-append (λ y. cond (y == p) 1 0) (x ∷ []) xs)

contains : (xs : List ℕ) (p : ℕ) → 0 < times p xs → Contains xs p
contains [] p some = absurd (omega arith)
contains (x ∷ xs) p some =
    dite (ℕ_discrete x p) (λ (same : x ≡ p). (0, omega arith, same))
    (λ (other : x ≢ p). let rest = contains xs p (let more = times_cons p x xs in grind (arith, nat_tests)) in (suc rest.0, omega (arith, rest.1), rest.2))

counts : (xs : List ℕ) (p : ℕ) → Contains xs p → 0 < times p xs
counts [] p h = absurd (omega (arith, h.1))
counts (x ∷ xs) p (zero, lt, same) = let more = times_cons p x xs in grind (arith, nat_tests)
counts (x ∷ xs) p (suc k, lt, at) = omega (arith, times_cons p x xs, counts xs p (k, omega (arith, lt), at))

pub all_inside : (xs : List ℕ) (n : ℕ) → ((p : ℕ) → 0 < times p xs → p < n) → All (λ p. p < n) xs
all_inside xs n h = All-weaker (Contains xs) (λ p. p < n) (λ p has. h p (counts xs p has)) xs (All-contains_itself xs)

pub none_twice : (xs : List ℕ) → ((p : ℕ) → times p xs ≤ 1) → AllPairs (λ p q. p ≢ q) xs
none_twice [] h = λ i j d lt inside. absurd (omega (arith, inside))
none_twice (x ∷ xs) h =
    AllPairs-cons (λ p q. p ≢ q) x xs (All-weaker (Contains xs) (λ q. x ≢ q) (λ q has same. (let some = counts xs q has in let few = h x in let more = times_cons x x xs in grind (arith, nat_tests))) xs (All-contains_itself xs))
    (none_twice xs (λ p. omega (arith, times_cons p x xs, h p)))

pub none_in_both : (xs ys : List ℕ) → ((p : ℕ) → times p xs + times p ys ≤ 1) → (p : ℕ) → Contains xs p → ¬ Contains ys p
none_in_both xs ys h p here there = omega (arith, h p, counts xs p here, counts ys p there)

pub all_places : (xs : List ℕ) (n : ℕ) → ((p : ℕ) → times p xs ≡ once_below p n) → (p : ℕ) → p < n → Contains xs p
all_places xs n h p lt = contains xs p (let is = h p in grind (arith, nat_tests))
