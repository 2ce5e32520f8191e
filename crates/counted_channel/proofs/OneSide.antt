-- What a side's word tells of the seats that count for its ends.
use Rattle.std.proofs.Common.{◌≡◌, ◌≢◌, ◌⊎◌, ℕ, zero, suc, ◌+◌, ◌*◌, ◌^◌, ◌<◌, ◌≤◌, List, [], ◌∷◌, ◌++◌, set, refl, ap, sym, ◌∙◌, subst, inl, ⊎_elim, arith}
use mathlib.Core.Option.{some, some-injective, some-ne-none}
use lib.ListN.{get_elem?}
use Rattle.std.proofs.{Common.mul-le-mul_right, lemmas.Nat.pow-add, Math.Nat.zero-mul, Math.Nat.add-mul, Math.Nat.eq-zero-or-pos}
use Rattle.atomic_table.proofs.Lists.{at_set, at_snoc, set_else}
use Rattle.queue_steps.specs.Shares.{Share, nothing, plus, IsEntire, IsSome, weight}
use Rattle.queue_steps.proofs.ShareLaws.{weight_deeper, weight_plus, weight_none, weight_some, weight_entire, plus_comm, plus_some}
use Rattle.counted_channel.specs.{declared.counting.Side.Side, declared.counting.SeatCounts.SeatCounts, declared.counting.TheConstants.MAX_ENDS, Counting.nobody, Counting.together, Counting.total, Counting.SideKept}

module _ (f : SeatCounts → ℕ) where
  total_set : (l : List SeatCounts) (i : ℕ) (a b : SeatCounts) → get_elem? l i ≡ some a → total f (set l i b) + f a ≡ total f l + f b
  total_set [] i a b e = absurd (some-ne-none a (sym e))
  total_set (x ∷ xs) zero a b e = let p = ap f (some-injective x a e) in omega arith
  total_set (x ∷ xs) (suc i) a b e = omega (arith, total_set xs i a b e)

  total_snoc : (l : List SeatCounts) (a : SeatCounts) → total f (l ++ a ∷ []) ≡ total f l + f a
  total_snoc [] a = omega arith
  total_snoc (x ∷ xs) a = omega (arith, total_snoc xs a)

  pub total_at : (l : List SeatCounts) (i : ℕ) (a : SeatCounts) → get_elem? l i ≡ some a → f a ≤ total f l
  total_at [] i a e = absurd (some-ne-none a (sym e))
  total_at (x ∷ xs) zero a e = let p = ap f (some-injective x a e) in omega arith
  total_at (x ∷ xs) (suc i) a e = omega (arith, total_at xs i a e)

  module _ (g : SeatCounts → ℕ) where
    total_most : (l : List SeatCounts) → ((j : ℕ) (v : SeatCounts) → get_elem? l j ≡ some v → f v ≤ g v) → total f l ≤ total g l
    total_most [] h = omega arith
    total_most (x ∷ xs) h = omega (arith, h 0 x refl, total_most xs (λ j v e. h (suc j) v e))

    -- where one has all of g, it has all of f
    total_none : (l : List SeatCounts) → ((j : ℕ) (v : SeatCounts) → get_elem? l j ≡ some v → g v ≡ 0 → f v ≡ 0) → total g l ≡ 0 → total f l ≡ 0
    total_none [] h z = refl
    total_none (x ∷ xs) h z = omega (arith, h 0 x refl (omega arith), total_none xs (λ j v e. h (suc j) v e) (omega arith))

    total_alone : (l : List SeatCounts) (i : ℕ) (a : SeatCounts) → get_elem? l i ≡ some a → ((j : ℕ) (v : SeatCounts) → get_elem? l j ≡ some v → g v ≡ 0 → f v ≡ 0) → total g l ≤ g a → total f l ≡ f a
    total_alone [] i a e h all = absurd (some-ne-none a (sym e))
    total_alone (x ∷ xs) zero a e h all =
        let p = ap f (some-injective x a e) in let q = ap g (some-injective x a e) in omega (arith, total_none xs (λ j v e. h (suc j) v e) (omega arith))
    total_alone (x ∷ xs) (suc i) a e h all =
        let n = total_there xs i a e in omega (arith, h 0 x refl (omega arith), total_alone xs i a e (λ j v e. h (suc j) v e) (omega arith))
      where
        total_there : (l : List SeatCounts) (i : ℕ) (a : SeatCounts) → get_elem? l i ≡ some a → g a ≤ total g l
        total_there [] i a e = absurd (some-ne-none a (sym e))
        total_there (x ∷ xs) zero a e = let p = ap g (some-injective x a e) in omega arith
        total_there (x ∷ xs) (suc i) a e = omega (arith, total_there xs i a e)

    total_times : (c : ℕ) (l : List SeatCounts) → ((j : ℕ) (v : SeatCounts) → get_elem? l j ≡ some v → g v ≡ f v * c) → total g l ≡ total f l * c
    total_times c [] h = sym (zero-mul c)
    total_times c (x ∷ xs) h = (λ i. h 0 x refl i + total_times c xs (λ j v e. h (suc j) v e) i) ∙ sym (add-mul (f x) (total f xs) c)

module _ (of : SeatCounts → Side) where
  abbrev pub ends : SeatCounts → ℕ
  ends v = (of v).ends

  abbrev pub extra : SeatCounts → ℕ
  extra v = (of v).extra

  abbrev pub stake : SeatCounts → Share
  stake v = (of v).stake

  abbrev pub heft : ℕ → SeatCounts → ℕ
  heft d v = weight d (of v).stake

  -- all stakes are no more than one at a larger depth either
  deeper : (d j : ℕ) (vs : List SeatCounts) → ((k : ℕ) (v : SeatCounts) → get_elem? vs k ≡ some v → (stake v).1 ≤ d) → total (heft d) vs ≤ 2 ^ d → total (heft (d + j)) vs ≤ 2 ^ (d + j)
  deeper d j vs low few =
      let more : total (heft (d + j)) vs ≡ total (heft d) vs * 2 ^ j = total_times (heft d) (heft (d + j)) (2 ^ j) vs (λ k v at. weight_deeper d j (stake v) (low k v at)) in
      let wide : 2 ^ (d + j) ≡ 2 ^ d * 2 ^ j = pow-add 2 d j in
      let most : total (heft d) vs * 2 ^ j ≤ 2 ^ d * 2 ^ j = mul-le-mul_right (2 ^ j) few in
      omega (arith, more, wide, most)

  in_set : (vs : List SeatCounts) (id : ℕ) (w : SeatCounts) (P : SeatCounts → Type 0) → ((j : ℕ) (u : SeatCounts) → get_elem? vs j ≡ some u → P u) → P w → (j : ℕ) (u : SeatCounts) → get_elem? (set vs id w) j ≡ some u → P u
  in_set vs id w P before new j u there = ⊎_elim (λ (t : (j ≡ id) × (w ≡ u)). subst P t.1 new) (λ (t : (j ≢ id) × (get_elem? vs j ≡ some u)). before j u t.1) (at_set vs id j w u there)

  -- a seat knows something else, and the word is another
  pub changes : (n m id : ℕ) (vs : List SeatCounts) (v w : SeatCounts) → SideKept of n vs → get_elem? vs id ≡ some v → extra w ≤ ends w → m + ends v + extra v ≡ n + ends w + extra w
      → ends w ≤ ends v ⊎ (n < MAX_ENDS) × (ends w ≤ ends v + 1) → (0 < ends w → 0 < ends v) → stake w ≡ stake v → SideKept of m (set vs id w)
  changes n m id vs v w k at more sum low on same = record {
    extra = in_set vs id w (λ z. extra z ≤ ends z) k.extra more;
    counted = let a = total_set ends vs id v w at in let b = total_set extra vs id v w at in let c = k.counted in omega (arith, a, b, c, sum);
    limited =
        let a = total_set ends vs id v w at in let c = k.counted in let l = k.limited in
        ⊎_elim (λ (t : ends w ≤ ends v). omega (arith, a, l, t)) (λ (t : (n < MAX_ENDS) × (ends w ≤ ends v + 1)). let t0 = t.0 in let t1 = t.1 in omega (arith, a, c, t0, t1)) low;
    has_stake = in_set vs id w (λ z. 0 < ends z → IsSome (stake z)) k.has_stake (λ pos. subst (λ (s : Share). IsSome s) (sym same) (k.has_stake id v at (on pos)));
    depth = k.depth;
    shallow = in_set vs id w (λ z. (stake z).1 ≤ k.depth) k.shallow (subst (λ (s : Share). s.1 ≤ k.depth) (sym same) (k.shallow id v at));
    one = let a = total_set (heft k.depth) vs id v w at in let e : heft k.depth w ≡ heft k.depth v = ap (weight k.depth) same in let l = k.one in omega (arith, a, e, l);
  }

  -- a seat knows something else of the other side alone
  pub stays : (n id : ℕ) (vs : List SeatCounts) (v w : SeatCounts) → SideKept of n vs → get_elem? vs id ≡ some v → of w ≡ of v → SideKept of n (set vs id w)
  stays n id vs v w k at same =
      let e : ends w ≡ ends v = ap (λ s. s.ends) same in let x : extra w ≡ extra v = ap (λ s. s.extra) same in let less = k.extra id v at in
      changes n n id vs v w k at (omega (arith, e, x, less)) (omega (arith, e, x)) (inl (omega (arith, e))) (λ pos. omega (arith, pos, e)) (ap (λ s. s.stake) same)

  -- a seat becomes two, whose stakes are no more than its own
  pub divides : (n id : ℕ) (vs : List SeatCounts) (v l r : SeatCounts) → SideKept of n vs → get_elem? vs id ≡ some v → ends l + ends r ≡ ends v → extra l + extra r ≡ extra v → extra l ≤ ends l → extra r ≤ ends r
      → (0 < ends l → IsSome (stake v) → IsSome (stake l)) → (0 < ends r → IsSome (stake v) → IsSome (stake r))
      → ((d : ℕ) → (stake v).1 ≤ d → ((stake l).1 ≤ d + 1) × ((stake r).1 ≤ d + 1) × (heft (d + 1) l + heft (d + 1) r ≤ heft (d + 1) v)) → SideKept of n (set vs id l ++ r ∷ [])
  divides n id vs v l r k at e x fl fr sl sr parted = record {
    extra = in_both (λ z. extra z ≤ ends z) k.extra fl fr;
    counted = omega (arith, total_set ends vs id v l at, total_set extra vs id v l at, total_snoc ends (set vs id l) r, total_snoc extra (set vs id l) r, k.counted, e, x);
    limited = omega (arith, total_set ends vs id v l at, total_snoc ends (set vs id l) r, k.limited, e);
    has_stake = in_both (λ z. 0 < ends z → IsSome (stake z)) k.has_stake (λ pos. sl pos (k.has_stake id v at (omega (arith, pos, e)))) (λ pos. sr pos (k.has_stake id v at (omega (arith, pos, e))));
    depth = k.depth + 1;
    shallow = in_both (λ z. (stake z).1 ≤ k.depth + 1) (λ j u there. let s = k.shallow j u there in omega (arith, s)) cut.0 cut.1;
    one =
        let a = total_set (heft (k.depth + 1)) vs id v l at in let b = total_snoc (heft (k.depth + 1)) (set vs id l) r in let c = cut.2 in let w = deeper k.depth 1 vs k.shallow k.one in
        omega (arith, a, b, c, w);
  }
    where
      cut : ((stake l).1 ≤ k.depth + 1) × ((stake r).1 ≤ k.depth + 1) × (heft (k.depth + 1) l + heft (k.depth + 1) r ≤ heft (k.depth + 1) v)
      cut = parted k.depth (k.shallow id v at)

      in_both : (P : SeatCounts → Type 0) → ((j : ℕ) (u : SeatCounts) → get_elem? vs j ≡ some u → P u) → P l → P r → (j : ℕ) (u : SeatCounts) → get_elem? (set vs id l ++ r ∷ []) j ≡ some u → P u
      in_both P before pl pr j u there = ⊎_elim (λ there'. in_set vs id l P before pl j u there') (λ (is : r ≡ u). subst P is pr) (at_snoc (set vs id l) r u j there)

  -- two seats become one, which counts for what both did
  pub unites : (n id other : ℕ) (vs : List SeatCounts) (v u b spent : SeatCounts) → SideKept of n vs → get_elem? vs id ≡ some v → get_elem? (set vs id b) other ≡ some u → other ≢ id → of b ≡ together (of v) (of u) → of spent ≡ nobody
      → SideKept of n (set (set vs id b) other spent)
  unites n id other vs v u b spent k at at' two is gone = record {
    extra = in_pair (λ z. extra z ≤ ends z) k.extra (let a = k.extra id v at in let c = k.extra other u there in omega (arith, eb, xb, a, c)) (omega (arith, en, xn));
    counted = omega (arith, total_set ends vs id v b at, total_set ends (set vs id b) other u spent at', total_set extra vs id v b at, total_set extra (set vs id b) other u spent at', k.counted, eb, xb, en, xn);
    limited = omega (arith, total_set ends vs id v b at, total_set ends (set vs id b) other u spent at', k.limited, eb, en);
    has_stake = in_pair (λ z. 0 < ends z → IsSome (stake z)) k.has_stake (λ pos. subst (λ (s : Share). IsSome s) (sym sb) (some_of (omega (arith, pos, eb)))) (λ pos. absurd (omega (arith, pos, en)));
    depth = k.depth + k.depth;
    shallow = in_pair (λ z. (stake z).1 ≤ k.depth + k.depth) (λ j z th. let s = k.shallow j z th in omega (arith, s))
        (subst (λ (s : Share). s.1 ≤ k.depth + k.depth) (sym sb) (let a = k.shallow id v at in let c = k.shallow other u there in omega (arith, a, c))) (subst (λ (s : Share). s.1 ≤ k.depth + k.depth) (sym sn) (omega arith));
    one =
        let d : ℕ = k.depth + k.depth in
        let a = total_set (heft d) vs id v b at in let c = total_set (heft d) (set vs id b) other u spent at' in
        let sum : heft d b ≡ heft d v + heft d u = ap (weight d) sb ∙ weight_plus d (stake v) (stake u) (let p = k.shallow id v at in let q = k.shallow other u there in omega (arith, p, q)) in
        let zero_heft : heft d spent ≡ 0 = weight_none d (stake spent) (ap (λ (s : Share). s.0) sn) in
        let w = deeper k.depth k.depth vs k.shallow k.one in
        omega (arith, a, c, sum, zero_heft, w);
  }
    where
      eb : ends b ≡ ends v + ends u
      eb = ap (λ s. s.ends) is

      xb : extra b ≡ extra v + extra u
      xb = ap (λ s. s.extra) is

      sb : stake b ≡ plus (stake v) (stake u)
      sb = ap (λ s. s.stake) is

      en : ends spent ≡ 0
      en = ap (λ s. s.ends) gone

      xn : extra spent ≡ 0
      xn = ap (λ s. s.extra) gone

      sn : stake spent ≡ nothing
      sn = ap (λ s. s.stake) gone

      there : get_elem? vs other ≡ some u
      there = sym (set_else vs id other b two) ∙ at'

      some_of : 0 < ends v + ends u → IsSome (plus (stake v) (stake u))
      some_of pos =
          ⊎_elim (λ (spent' : ends v ≡ 0). subst (λ (s : Share). IsSome s) (plus_comm (stake u) (stake v)) (plus_some (stake u) (stake v) (k.has_stake other u there (omega (arith, pos, spent')))))
          (λ (more : 0 < ends v). plus_some (stake v) (stake u) (k.has_stake id v at more)) (eq-zero-or-pos (ends v))

      in_pair : (P : SeatCounts → Type 0) → ((j : ℕ) (z : SeatCounts) → get_elem? vs j ≡ some z → P z) → P b → P spent → (j : ℕ) (z : SeatCounts) → get_elem? (set (set vs id b) other spent) j ≡ some z → P z
      in_pair P before pb pn = in_set (set vs id b) other spent P (in_set vs id b P before pb) pn

  -- a seat counted in vain lies within twice the limit
  pub few : (n : ℕ) (vs : List SeatCounts) → SideKept of n vs → n ≤ 2 * MAX_ENDS
  few n vs k = let m = total_most extra ends vs k.extra in omega (arith, m, k.counted, k.limited)

  -- who has all of the stakes is the only one that counts
  pub alone : (n id : ℕ) (vs : List SeatCounts) (v : SeatCounts) → SideKept of n vs → get_elem? vs id ≡ some v → IsEntire (stake v) → n ≡ ends v + extra v
  alone n id vs v k at all =
      let full : heft k.depth v ≡ 2 ^ k.depth = weight_entire k.depth (stake v) (k.shallow id v at) all in
      let most : total (heft k.depth) vs ≤ heft k.depth v = let l = k.one in omega (arith, full, l) in
      let e = total_alone ends (heft k.depth) vs id v at (λ j u there nil. poor j u there nil) most in
      let x = total_alone extra (heft k.depth) vs id v at (λ j u there nil. let p = poor j u there nil in let l = k.extra j u there in omega (arith, p, l)) most in
      let c = k.counted in omega (arith, e, x, c)
    where
      poor : (j : ℕ) (u : SeatCounts) → get_elem? vs j ≡ some u → heft k.depth u ≡ 0 → ends u ≡ 0
      poor j u there nil =
          ⊎_elim (λ (z : ends u ≡ 0). z) (λ (pos : 0 < ends u). let h = weight_some k.depth (stake u) (k.has_stake j u there pos) in absurd (omega (arith, nil, h))) (eq-zero-or-pos (ends u))
