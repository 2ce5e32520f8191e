-- Steps of the loops that empty a list, from its front or from its end.
use Rattle.std.proofs.Common.{◌≡◌, ◌⊎◌, inl, inr, ℕ, ◌+◌, ◌<◌, ◌≤◌, Bool, true, false, List, [], ◌∷◌, get_or, set, refl, ◌∙◌, ap, sym, arith, ◌≢◌, zero, suc, length, ◌++◌, take, length-append}
use Rattle.std.specs.Prelude.{replicate}
use Rattle.std.proofs.lemmas.List.{get_or-set_other, take_at, take-replicate, length-replicate}
use Rattle.own_cells.specs.OneRing.Laws.Numbers.{same_or_not}

pub none_before : (k : ℕ) → k < 0 → ⊥
none_before k lt = omega arith

pub itself : (k : ℕ) → k ≤ k
itself k = omega arith

pub counted_below : (k count cap : ℕ) → count ≡ cap → k < cap → k < count
counted_below k count cap is lt = omega arith

pub counted_before : (k count cap at : ℕ) → count ≡ cap → k < count → cap ≤ at → k < at
counted_before k count cap at is lt high = omega arith

-- a slot that was taken is empty, also where there is none
taken : (fs : List Bool) (i : ℕ) → get_or (set fs i false) i false ≡ false
taken [] i = refl
taken (f ∷ fs) zero = refl
taken (f ∷ fs) (suc i) = taken fs i

module _ (old new : List Bool) (i : ℕ) where
  pub first_empty : new ≡ set old i false → ((k : ℕ) → k < i → get_or old k false ≡ false) → (k : ℕ) → k < i + 1 → get_or new k false ≡ false
  first_empty is before k lt = ap (λ fs. get_or fs k false) is ∙ go (same_or_not k i)
    where
      go : (k ≡ i) ⊎ (k ≢ i) → get_or (set old i false) k false ≡ false
      go (inl e) = rw e (taken old i)
      go (inr differs) = get_or-set_other old i k false false differs ∙ before k (omega (arith, lt, differs))

  pub others_full : (n : ℕ) → new ≡ set old i false → ((k : ℕ) → i ≤ k → k < n → get_or old k false ≡ true) → (k : ℕ) → i + 1 ≤ k → k < n → get_or new k false ≡ true
  others_full n is full k low lt = ap (λ fs. get_or fs k false) is ∙ (get_or-set_other old i k false false (λ e. omega (arith, low, e)) ∙ full k (omega (arith, low)) lt)

-- a list of which the last is taken
module _ {A : Type 0} (old new : List A) (last : A) where
  pub fewer_left : old ≡ new ++ last ∷ [] → length new < length old
  fewer_left is = let long = ap length is ∙ length-append new (last ∷ []) in omega (arith, long)

  pub rest_replicated : (a : A) → old ≡ replicate (length old) a → old ≡ new ++ last ∷ [] → new ≡ replicate (length new) a
  rest_replicated a all is = sym (take_at new (last ∷ []) (length new) refl) ∙ (ap (take (length new)) (sym is ∙ all) ∙ take-replicate (length new) (length old) a (let lt = fewer_left is in omega (arith, lt)))

-- a list of one value, by its own length
pub replicated : {A : Type 0} (xs : List A) (n : ℕ) (a : A) → xs ≡ replicate n a → xs ≡ replicate (length xs) a
replicated xs n a is = is ∙ ap (λ k. replicate k a) (sym (ap length is ∙ length-replicate n a))
