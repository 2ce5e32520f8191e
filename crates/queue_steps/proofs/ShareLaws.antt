-- How shares add up.
use Rattle.std.proofs.Common.{◌≡◌, ℕ, ◌+◌, ◌-◌, ◌*◌, ◌^◌, ◌<◌, ◌≤◌, refl, ap, sym, ◌∙◌, subst, ⊎_elim, arith}
use Rattle.std.proofs.{lemmas.Nat.pow_pos, lemmas.Nat.pow-add, Math.Nat.mul_assoc, Math.Nat.mul_right_comm, Math.Nat.add-mul, Math.Nat.zero-mul, Math.Nat.mul-pos, Math.Nat.eq-zero-or-pos, Math.Nat.eq_of_mul-eq-mul_right, Math.Nat.le_of_mul-le-mul_right}
use Rattle.queue_steps.specs.Shares.{Share, nothing, half, plus, SamePart, IsEntire, IsSome, IsPart, weight, SharesAddUp}

-- a power of two, taken apart
apart : (a b c : ℕ) → a ≡ b + c → 2 ^ a ≡ 2 ^ b * 2 ^ c
apart a b c e = ap (λ (z : ℕ). 2 ^ z) e ∙ pow-add 2 b c

times_apart : (n a b c : ℕ) → a ≡ b + c → n * 2 ^ a ≡ n * 2 ^ b * 2 ^ c
times_apart n a b c e = ap (λ (z : ℕ). n * z) (apart a b c e) ∙ sym (mul_assoc n (2 ^ b) (2 ^ c))

-- at a larger depth
pub weight_deeper : (d j : ℕ) (s : Share) → s.1 ≤ d → weight (d + j) s ≡ weight d s * 2 ^ j
weight_deeper d j s le = times_apart s.0 (d + j - s.1) (d - s.1) j (omega (arith, le))

pub weight_plus : (d : ℕ) (s t : Share) → s.1 + t.1 ≤ d → weight d (plus s t) ≡ weight d s + weight d t
weight_plus d s t le =
    let r : ℕ = 2 ^ (d - (s.1 + t.1)) in
    let x : s.0 * 2 ^ t.1 * r ≡ weight d s = sym (times_apart s.0 (d - s.1) t.1 (d - (s.1 + t.1)) (omega (arith, le))) in
    let y : t.0 * 2 ^ s.1 * r ≡ weight d t = sym (times_apart t.0 (d - t.1) s.1 (d - (s.1 + t.1)) (omega (arith, le))) in
    add-mul (s.0 * 2 ^ t.1) (t.0 * 2 ^ s.1) r ∙ (λ i. x i + y i)

pub weight_halves : (d : ℕ) (s : Share) → s.1 + 1 ≤ d → weight d (half s) + weight d (half s) ≡ weight d s
weight_halves d s le =
    let twice : weight d s ≡ weight d (half s) * 2 = times_apart s.0 (d - s.1) (d - (s.1 + 1)) 1 (omega (arith, le)) in
    omega (arith, twice)

pub weight_none : (d : ℕ) (s : Share) → s.0 ≡ 0 → weight d s ≡ 0
weight_none d s none = ap (λ (z : ℕ). z * 2 ^ (d - s.1)) none ∙ zero-mul (2 ^ (d - s.1))

pub weight_some : (d : ℕ) (s : Share) → IsSome s → 0 < weight d s
weight_some d s pos = mul-pos pos (pow_pos (d - s.1))

pub none_weight : (d : ℕ) (s : Share) → weight d s ≡ 0 → s.0 ≡ 0
none_weight d s none = ⊎_elim (λ (z : s.0 ≡ 0). z) (λ (pos : 0 < s.0). absurd (omega (arith, none, weight_some d s pos))) (eq-zero-or-pos s.0)

pub weight_entire : (d : ℕ) (s : Share) → s.1 ≤ d → IsEntire s → weight d s ≡ 2 ^ d
weight_entire d s le all = ap (λ (z : ℕ). z * 2 ^ (d - s.1)) all ∙ sym (apart d s.1 (d - s.1) (omega (arith, le)))

pub entire_weight : (d : ℕ) (s : Share) → s.1 ≤ d → weight d s ≡ 2 ^ d → IsEntire s
entire_weight d s le all = eq_of_mul-eq-mul_right (2 ^ (d - s.1)) (pow_pos (d - s.1)) s.0 (2 ^ s.1) (all ∙ apart d s.1 (d - s.1) (omega (arith, le)))

pub part_weight : (d : ℕ) (s : Share) → s.1 ≤ d → weight d s ≤ 2 ^ d → IsPart s
part_weight d s le few = le_of_mul-le-mul_right (subst (λ (z : ℕ). weight d s ≤ z) (apart d s.1 (d - s.1) (omega (arith, le))) few) (pow_pos (d - s.1))

-- weighed at two depths, and at that of the product of the pairs' powers
weight_both : (d b : ℕ) (s : Share) → s.1 ≤ d → s.1 ≤ b → weight d s * 2 ^ b ≡ weight b s * 2 ^ d
weight_both d b s le le' = sym (weight_deeper d b s le) ∙ (ap (λ (z : ℕ). weight z s) (let e : d + b ≡ b + d = omega arith in e) ∙ weight_deeper b d s le')

weight_left : (s t : Share) → weight (s.1 + t.1) s ≡ s.0 * 2 ^ t.1
weight_left s t = ap (λ (z : ℕ). s.0 * 2 ^ z) (let e : s.1 + t.1 - s.1 ≡ t.1 = omega arith in e)

weight_right : (s t : Share) → weight (s.1 + t.1) t ≡ t.0 * 2 ^ s.1
weight_right s t = ap (λ (z : ℕ). t.0 * 2 ^ z) (let e : s.1 + t.1 - t.1 ≡ s.1 = omega arith in e)

-- two pairs are for one part where they weigh the same, at any depth
same_weights : (d b : ℕ) (s t : Share) → s.1 ≤ d → t.1 ≤ d → s.1 ≤ b → t.1 ≤ b → weight b s ≡ weight b t → weight d s ≡ weight d t
same_weights d b s t ls lt ls' lt' same =
    eq_of_mul-eq-mul_right (2 ^ b) (pow_pos b) (weight d s) (weight d t) (weight_both d b s ls ls' ∙ (ap (λ (z : ℕ). z * 2 ^ d) same ∙ sym (weight_both d b t lt lt')))

pub same_weight : (d : ℕ) (s t : Share) → s.1 ≤ d → t.1 ≤ d → SamePart s t → weight d s ≡ weight d t
same_weight d s t le le' same = same_weights d (s.1 + t.1) s t le le' (omega arith) (omega arith) (weight_left s t ∙ (same ∙ sym (weight_right s t)))

pub weight_same : (d : ℕ) (s t : Share) → s.1 ≤ d → t.1 ≤ d → weight d s ≡ weight d t → SamePart s t
weight_same d s t le le' same = sym (weight_left s t) ∙ (same_weights (s.1 + t.1) d s t (omega arith) (omega arith) le le' same ∙ weight_right s t)

-- the laws of sums, halves and pairs for one part
pub plus_comm : (s t : Share) → plus s t ≡ plus t s
plus_comm s t =
    let x : s.0 * 2 ^ t.1 + t.0 * 2 ^ s.1 ≡ t.0 * 2 ^ s.1 + s.0 * 2 ^ t.1 = omega arith in
    let y : s.1 + t.1 ≡ t.1 + s.1 = omega arith in
    λ i. (x i, y i)

pub plus_assoc : (s t u : Share) → plus (plus s t) u ≡ plus s (plus t u)
plus_assoc s t u =
    let a : s.0 * 2 ^ (t.1 + u.1) ≡ s.0 * 2 ^ t.1 * 2 ^ u.1 = times_apart s.0 (t.1 + u.1) t.1 u.1 refl in
    let b : (s.0 * 2 ^ t.1 + t.0 * 2 ^ s.1) * 2 ^ u.1 ≡ s.0 * 2 ^ t.1 * 2 ^ u.1 + t.0 * 2 ^ s.1 * 2 ^ u.1 = add-mul (s.0 * 2 ^ t.1) (t.0 * 2 ^ s.1) (2 ^ u.1) in
    let c : (t.0 * 2 ^ u.1 + u.0 * 2 ^ t.1) * 2 ^ s.1 ≡ t.0 * 2 ^ u.1 * 2 ^ s.1 + u.0 * 2 ^ t.1 * 2 ^ s.1 = add-mul (t.0 * 2 ^ u.1) (u.0 * 2 ^ t.1) (2 ^ s.1) in
    let e : t.0 * 2 ^ u.1 * 2 ^ s.1 ≡ t.0 * 2 ^ s.1 * 2 ^ u.1 = mul_right_comm t.0 (2 ^ u.1) (2 ^ s.1) in
    let f : u.0 * 2 ^ (s.1 + t.1) ≡ u.0 * 2 ^ s.1 * 2 ^ t.1 = times_apart u.0 (s.1 + t.1) s.1 t.1 refl in
    let g : u.0 * 2 ^ t.1 * 2 ^ s.1 ≡ u.0 * 2 ^ s.1 * 2 ^ t.1 = mul_right_comm u.0 (2 ^ t.1) (2 ^ s.1) in
    let x : (s.0 * 2 ^ t.1 + t.0 * 2 ^ s.1) * 2 ^ u.1 + u.0 * 2 ^ (s.1 + t.1) ≡ s.0 * 2 ^ (t.1 + u.1) + (t.0 * 2 ^ u.1 + u.0 * 2 ^ t.1) * 2 ^ s.1 =
    (λ i. b i + f i) ∙ (let m : s.0 * 2 ^ t.1 * 2 ^ u.1 + t.0 * 2 ^ s.1 * 2 ^ u.1 + u.0 * 2 ^ s.1 * 2 ^ t.1 ≡ s.0 * 2 ^ t.1 * 2 ^ u.1 + (t.0 * 2 ^ s.1 * 2 ^ u.1 + u.0 * 2 ^ s.1 * 2 ^ t.1) = omega arith in m
    ∙ (λ i. sym a i + (sym e i + sym g i)) ∙ (λ i. s.0 * 2 ^ (t.1 + u.1) + sym c i)) in
    let y : s.1 + t.1 + u.1 ≡ s.1 + (t.1 + u.1) = omega arith in
    λ i. (x i, y i)

pub plus_nothing : (s : Share) → plus s nothing ≡ s
plus_nothing s =
    let none : 0 * 2 ^ s.1 ≡ 0 = zero-mul (2 ^ s.1) in
    let x : s.0 * 2 ^ 0 + 0 * 2 ^ s.1 ≡ s.0 = omega (arith, none) in
    let y : s.1 + 0 ≡ s.1 = omega arith in
    λ i. (x i, y i)

pub same_refl : (s : Share) → SamePart s s
same_refl s = refl

pub same_sym : (s t : Share) → SamePart s t → SamePart t s
same_sym s t same = sym same

pub same_trans : (s t u : Share) → SamePart s t → SamePart t u → SamePart s u
same_trans s t u a b =
    let d : ℕ = s.1 + t.1 + u.1 in
    weight_same d s u (omega arith) (omega arith) (same_weight d s t (omega arith) (omega arith) a ∙ same_weight d t u (omega arith) (omega arith) b)

pub plus_same : (s s' t t' : Share) → SamePart s s' → SamePart t t' → SamePart (plus s t) (plus s' t')
plus_same s s' t t' a b =
    let d : ℕ = s.1 + t.1 + (s'.1 + t'.1) in
    weight_same d (plus s t) (plus s' t') (omega arith) (omega arith)
    (weight_plus d s t (omega arith) ∙ ((λ i. same_weight d s s' (omega arith) (omega arith) a i + same_weight d t t' (omega arith) (omega arith) b i) ∙ sym (weight_plus d s' t' (omega arith))))

-- two halves are the whole
pub halves_same : (s : Share) → SamePart (plus (half s) (half s)) s
halves_same s =
    let d : ℕ = s.1 + 1 + (s.1 + 1) in
    weight_same d (plus (half s) (half s)) s (omega arith) (omega arith) (weight_plus d (half s) (half s) (omega arith) ∙ weight_halves d s (omega arith))

pub half_same : (s t : Share) → SamePart s t → SamePart (half s) (half t)
half_same s t same =
    let d : ℕ = s.1 + 1 + (t.1 + 1) in
    let both : weight d (half s) + weight d (half s) ≡ weight d (half t) + weight d (half t) =
    weight_halves d s (omega arith) ∙ (same_weight d s t (omega arith) (omega arith) same ∙ sym (weight_halves d t (omega arith))) in
    weight_same d (half s) (half t) (omega arith) (omega arith) (omega (arith, both))

pub entire_same : (s t : Share) → SamePart s t → IsEntire s → IsEntire t
entire_same s t same all =
    let d : ℕ = s.1 + t.1 in
    entire_weight d t (omega arith) (sym (same_weight d s t (omega arith) (omega arith) same) ∙ weight_entire d s (omega arith) all)

pub plus_some : (s t : Share) → IsSome s → IsSome (plus s t)
plus_some s t rich = let pos : 0 < s.0 * 2 ^ t.1 = mul-pos rich (pow_pos t.1) in omega (arith, pos)

-- who has all leaves nothing
pub entire_rest : (s t : Share) → IsEntire s → IsPart (plus s t) → t.0 ≡ 0
entire_rest s t all few =
    let full : s.0 * 2 ^ t.1 ≡ 2 ^ (s.1 + t.1) = ap (λ (z : ℕ). z * 2 ^ t.1) all ∙ sym (pow-add 2 s.1 t.1) in
    ⊎_elim (λ (z : t.0 ≡ 0). z) (λ (pos : 0 < t.0). let more : 0 < t.0 * 2 ^ s.1 = mul-pos pos (pow_pos s.1) in absurd (omega (arith, full, few, more))) (eq-zero-or-pos t.0)

pub entire_plus : (s t : Share) → IsEntire s → t.0 ≡ 0 → IsEntire (plus s t)
entire_plus s t all none =
    let full : s.0 * 2 ^ t.1 ≡ 2 ^ (s.1 + t.1) = ap (λ (z : ℕ). z * 2 ^ t.1) all ∙ sym (pow-add 2 s.1 t.1) in
    let nil : t.0 * 2 ^ s.1 ≡ 0 = ap (λ (z : ℕ). z * 2 ^ s.1) none ∙ zero-mul (2 ^ s.1) in
    omega (arith, full, nil)

-- what was parted in halves is what it was once they are joined
pub halves_joined : (s a b : Share) → SamePart a (half s) → SamePart b (half s) → SamePart (plus a b) s
halves_joined s a b x y = same_trans (plus a b) (plus (half s) (half s)) s (plus_same a (half s) b (half s) x y) (halves_same s)

pub shares_add_up : SharesAddUp
shares_add_up = record {
  commute = plus_comm;
  associate = plus_assoc;
  unit = plus_nothing;
  same_itself = same_refl;
  same_back = same_sym;
  same_on = same_trans;
  same_sums = plus_same;
  same_halves = half_same;
  halves = halves_same;
  same_entire = entire_same;
}
