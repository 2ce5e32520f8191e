-- How many of the first numbers have a property, and that a map with a way back leads to as many.
use Rattle.std.proofs.Common.{ℕ, ◌+◌, ◌<◌, ◌≤◌, ◌≡◌, ◌∙◌, ◌⊎◌, inl, inr, zero, suc, Bool, true, false, refl, sym, ap, arith}
use Rattle.std.proofs.lemmas.Bool.Decides.{eqb_tells}
use Rattle.queue_laws.specs.Common.Puts.{put}
use Rattle.queue_laws.proofs.Common.Puts.{put_same, put_other}

-- one, where it is so
abbrev pub one_if : Bool → ℕ
one_if true = 1
one_if false = 0

-- how many numbers below n have the property
abbrev pub count : (ℕ → Bool) → ℕ → ℕ
count P zero = 0
count P (suc n) = count P n + one_if (P n)

pub count_same : (P Q : ℕ → Bool) (n : ℕ) → ((j : ℕ) → j < n → P j ≡ Q j) → count P n ≡ count Q n
count_same P Q zero h = refl
count_same P Q (suc n) h =
    let before = count_same P Q n (λ j lt. h j (omega arith)) in
    let here = ap one_if (h n (omega arith)) in
    omega arith

-- the first number apart
pub count_front : (P : ℕ → Bool) (n : ℕ) → count P (suc n) ≡ one_if (P 0) + count (λ j. P (suc j)) n
count_front P zero = omega arith
count_front P (suc n) = let before = count_front P n in omega arith

pub count_all : (n : ℕ) → count (λ j. true) n ≡ n
count_all zero = refl
count_all (suc n) = let before = count_all n in omega arith

-- one number less
count_less : (Q : ℕ → Bool) (i n : ℕ) → i < n → Q i ≡ true → count Q n ≡ count (put Q i false) n + 1
count_less Q i zero lt is = absurd (omega arith)
count_less Q i (suc n) lt is = elim (eqb_tells i n) [
  | inl e ↦ let before = count_same Q (put Q i false) n (λ j less. sym (put_other Q i j false (λ z. let y = e.1 in omega arith))) in
      let here : one_if (Q n) ≡ 1 = ap one_if (ap Q (sym e.1) ∙ is) in
      let gone : one_if (put Q i false n) ≡ 0 = ap one_if (ap (put Q i false) (sym e.1) ∙ put_same Q i false) in
      omega arith
  | inr e ↦ let before = count_less Q i n (let ne = e.1 in omega arith) is in
      let here : one_if (put Q i false n) ≡ one_if (Q n) = ap one_if (put_other Q i n false (λ z. e.1 (sym z))) in
      omega arith
]

-- there are no more of these numbers than of those that they lead to, where a way leads back
pub count_into : (P Q : ℕ → Bool) (n m : ℕ) (to from : ℕ → ℕ) → ((j : ℕ) → j < n → P j ≡ true → (to j < m) × (Q (to j) ≡ true) × (from (to j) ≡ j)) → count P n ≤ count Q m
count_into P Q zero m to from h = omega arith
count_into P Q (suc n) m to from h = elim (P n) as (λ b. P n ≡ b → count P n + one_if b ≤ count Q m) [
  | true ↦ λ e. let here = h n (omega arith) e in
      let others = count_into P (put Q (to n) false) n m to from (λ j lt is.
      let there = h j (omega arith) is in (
        there.0,
        put_other Q (to n) (to j) false (λ z. let y : j ≡ n = sym there.2 ∙ (ap from z ∙ here.2) in absurd (omega arith)) ∙ there.1,
        there.2,
      )) in
      let one = count_less Q (to n) m here.0 here.1 in
      omega arith
  | false ↦ λ e. let others = count_into P Q n m to from (λ j lt is. h j (omega arith) is) in omega arith
] refl

-- each number has one of two properties
pub count_split : (P Q R : ℕ → Bool) (n : ℕ) → ((j : ℕ) → P j ≡ true → (Q j ≡ true) ⊎ (R j ≡ true)) → count P n ≤ count Q n + count R n
count_split P Q R zero h = omega arith
count_split P Q R (suc n) h = let before = count_split P Q R n h in let here = one (P n) (Q n) (R n) (h n) in omega arith
  where
    one : (p q r : Bool) → (p ≡ true → (q ≡ true) ⊎ (r ≡ true)) → one_if p ≤ one_if q + one_if r
    one true false false h = elim (h refl) [ inl e ↦ cc | inr e ↦ cc ]
    one p q r h = omega arith
