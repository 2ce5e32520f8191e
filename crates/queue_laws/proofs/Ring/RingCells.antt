-- Positions a lap apart or less, and what claiming and letting go of a slot leaves of what a party holds.
use Rattle.std.proofs.Common.{ℕ, ◌+◌, ◌*◌, ◌/◌, ◌%◌, ◌<◌, ◌≤◌, ◌≡◌, ◌≢◌, ◌∙◌, ◌⊎◌, inl, inr, Some, None, refl, sym, ap, arith}
use Rattle.std.proofs.Math.Nat.{add-mul-mod_self_left, div-add-mod, mul-le-mul_left}
use Rattle.queue_laws.specs.{Common.Puts.put, Ring.RingCells.Cell, Ring.RingCells.owner, Ring.RingCells.HoldsNone, Ring.RingCells.HoldsOne}
use Rattle.queue_laws.proofs.Common.Puts.{put_ok, put_other, put_same}

-- two positions less than a lap apart have slots of their own
pub apart : (n p t : ℕ) → 0 < n → p < t → t < p + n → p % n ≢ t % n
apart n p t some before within same =
    go (p / n) (t / n) (div-add-mod p n) (div-add-mod t n)
  where
    cases : (i j : ℕ) → (j ≤ i) ⊎ (i + 1 ≤ j)
    cases i j = grind arith

    order : (i j : ℕ) → n * i + p % n ≡ p → n * j + t % n ≡ t → (j ≤ i) ⊎ (i + 1 ≤ j) → ⊥
    order i j a b (inl le) = let m : n * j ≤ n * i = mul-le-mul_left n le in omega arith
    order i j a b (inr le) = let m : n * (i + 1) ≤ n * j = mul-le-mul_left n le in let e : n * (i + 1) ≡ n * i + n = omega arith in omega arith

    go : (i j : ℕ) → n * i + p % n ≡ p → n * j + t % n ≡ t → ⊥
    go i j a b = order i j a b (cases i j)

pub wraps : (p cap : ℕ) → (p + cap) % cap ≡ p % cap
wraps p cap = let e : p + cap ≡ p + cap * 1 = omega arith in rw e (add-mul-mod_self_left p cap 1)

-- positions of one slot that are less than a lap apart are one
pub together : (n p t : ℕ) → 0 < n → p % n ≡ t % n → p ≤ t → t < p + n → p ≡ t
together n p t some same low high = go (cases p t low)
  where
    cases : (p t : ℕ) → p ≤ t → (p ≡ t) ⊎ (p < t)
    cases p t low = grind arith

    go : (p ≡ t) ⊎ (p < t) → p ≡ t
    go (inl e) = e
    go (inr lt) = absurd (apart n p t some lt high same)

-- a party that holds none and takes a slot holds that one
pub claims : {A : Type 0} (cells : ℕ → Cell A) (who i : ℕ) (c : Cell A) → HoldsNone cells who → HoldsOne (put cells i c) who i c
claims cells who i c none =
    (put_same cells i c, λ k e. put_ok cells i k c (λ j d. owner d ≡ Some who → j ≡ i) (λ e. refl) (λ ne e. absurd (none k e)) e)

-- a party goes on with the slot that it holds
pub keeps_on : {A : Type 0} (cells : ℕ → Cell A) (who i : ℕ) (old c : Cell A) → HoldsOne cells who i old → HoldsOne (put cells i c) who i c
keeps_on cells who i old c one =
    (put_same cells i c, λ k e. put_ok cells i k c (λ j d. owner d ≡ Some who → j ≡ i) (λ e. refl) (λ ne e. one.1 k e) e)

-- a party lets go of the slot that it holds
pub lets_go : {A : Type 0} (cells : ℕ → Cell A) (who i : ℕ) (old c : Cell A) → owner c ≡ None → HoldsOne cells who i old → HoldsNone (put cells i c) who
lets_go cells who i old c nobody one =
    λ k e. put_ok cells i k c (λ j d. owner d ≡ Some who → ⊥) (λ e. let f : None ≡ Some who = sym nobody ∙ e in cc) (λ ne e. ne (one.1 k e)) e

-- two parties hold no slot together
pub put_owned : {A : Type 0} (cells : ℕ → Cell A) (i k who other : ℕ) (c : Cell A) → other ≢ who → (owner c ≡ Some other → ⊥)
    → owner (put cells i c k) ≡ Some other → owner (cells k) ≡ Some other
put_owned cells i k who other c ne foreign e =
    put_ok cells i k c (λ j d. owner d ≡ Some other → k ≡ j → owner (cells k) ≡ Some other) (λ e same. absurd (foreign e)) (λ no e same. e) e refl

-- what another party holds stays
pub held_stays : {A : Type 0} (cells : ℕ → Cell A) (i k other : ℕ) (c : Cell A)
    → (owner (cells i) ≡ Some other → ⊥) → owner (cells k) ≡ Some other → put cells i c k ≡ cells k
held_stays cells i k other c foreign whose =
    put_other cells i k c (λ e. foreign (ap (λ n. owner (cells n)) (sym e) ∙ whose))
