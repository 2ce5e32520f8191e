-- Every place has names past any bound.
use Rattle.std.proofs.Common.{ℕ, zero, suc, ◌+◌, ◌≤◌, ◌≡◌, ◌∙◌, refl, ap, subst, arith}
use denote.RawPtr.{block_ptr}
use Rattle.shared_chain.specs.Spots.{next_pair, pair_at, spot}

small_next : (n : ℕ) (p : ℕ × ℕ) → p.0 ≤ n → (next_pair p).0 ≤ suc n
small_next n (x, zero) le = omega arith
small_next n (x, suc y) le = omega arith

pair_small : (n : ℕ) → (pair_at n).0 ≤ n
pair_small zero = omega arith
pair_small (suc n) = small_next n (pair_at n) (pair_small n)

reached : (s : ℕ) → (n : ℕ) × (pair_at n ≡ (0, s)) → (x y : ℕ) → x + y ≡ s → (m : ℕ) × (pair_at m ≡ (x, y))
reached s begin zero y e = let h : s ≡ y = omega arith in (begin.0, begin.1 ∙ ap (λ (z : ℕ). (zero, z)) h)
reached s begin (suc x) y e = let h = reached s begin x (suc y) (omega arith) in (suc h.0, ap next_pair h.1)

begun : (s : ℕ) → (n : ℕ) × (pair_at n ≡ (0, s))
begun zero = (0, refl)
begun (suc s) = let h = reached s (begun s) s 0 (omega arith) in (suc h.0, ap next_pair h.1)

-- each pair stands somewhere
pub pair_number : (x y : ℕ) → (n : ℕ) × (pair_at n ≡ (x, y))
pair_number x y = reached (x + y) (begun (x + y)) x y refl

-- a place has a name at or past any number
pub named_past : (n b o : ℕ) → (f : ℕ) × (n ≤ f) × (spot f ≡ block_ptr b o)
named_past n b o =
    let inner = pair_number b o in
    let h = pair_number n inner.0 in
    let is : (pair_at h.0).1 ≡ inner.0 = ap (λ (p : ℕ × ℕ). p.1) h.1 in
    let first : (pair_at h.0).0 ≡ n = ap (λ (p : ℕ × ℕ). p.0) h.1 in
    let low = pair_small h.0 in (
      h.0,
      subst (λ z. z ≤ h.0) first low,
      ap (λ z. block_ptr (pair_at z).0 (pair_at z).1) is ∙ ap (λ (p : ℕ × ℕ). block_ptr p.0 p.1) inner.1,
    )
