-- A remainder by a power of two is a mask.
use Rattle.std.specs.{Prelude.bit_and, Int.is_power_of_two, Int.RustNames.count_ones, Int.Count.ones_step}
use Rattle.std.proofs.Common.{◌≡◌, ◌⊎◌, ℕ, zero, suc, ◌+◌, ◌-◌, ◌*◌, ◌/◌, ◌%◌, ◌^◌, ◌<◌, ◌≤◌, true, refl, arith, inl, inr, sym, ◌∙◌, ap}
use Rattle.std.proofs.lemmas.Nat.{and_mask, zero_from_ones}

doubled : (k : ℕ) → 2 ^ suc k ≡ (2 ^ k) * 2
doubled k = grind arith

no_ones : count_ones 0 ≡ 0
unfolding count_ones
no_ones = refl

positive : (n : ℕ) → count_ones n ≡ 1 → 0 < n
positive zero e = let none : count_ones 0 ≡ 0 = no_ones in absurd (omega arith)
positive (suc n) e = omega arith

-- a number with one digit set is a power of two
power : (b n : ℕ) → n ≤ b → count_ones n ≡ 1 → (k : ℕ) × (n ≡ 2 ^ k)
power zero n small one =
    let none : n ≡ 0 = omega arith in
    let zeros : count_ones n ≡ 0 = rw none no_ones in
    absurd (omega arith)
power (suc b) n small one = go (cases (n % 2) (let h : n % 2 < 2 = omega arith in h)) (λ half count. power b (n / 2) half count)
  where
    cases : (r : ℕ) → r < 2 → (r ≡ 0) ⊎ (r ≡ 1)
    cases r h = grind arith

    go : (n % 2 ≡ 0) ⊎ (n % 2 ≡ 1) → (n / 2 ≤ b → count_ones (n / 2) ≡ 1 → (k : ℕ) × (n / 2 ≡ 2 ^ k)) → (k : ℕ) × (n ≡ 2 ^ k)
    go (inl even) less =
        let count : count_ones n ≡ n % 2 + count_ones (n / 2) = ones_step n in
        let some : 0 < n = positive n one in
        let half = less (omega arith) (omega arith) in
        let whole : n ≡ (n / 2) * 2 = omega arith in
        (suc half.0, whole ∙ (ap (λ m. m * 2) half.1 ∙ sym (doubled half.0)))
    go (inr odd) less =
        let count : count_ones n ≡ n % 2 + count_ones (n / 2) = ones_step n in
        let none : n / 2 ≡ 0 = zero_from_ones (n / 2) (omega arith) in
        (0, let e : n ≡ 1 = omega arith in e)

pub and-power : (n p : ℕ) → is_power_of_two n ≡ true → bit_and p (n - 1) ≡ p % n
and-power n p e =
    let one : count_ones n ≡ 1 = grind arith in
    let h = power n n (omega arith) one in
    rw h.1 (and_mask p h.0)
