-- Texts in order, one more.
use Rattle.std.proofs.Common.{◌≡◌, ◌∙◌, ℕ, ◌+◌, ◌-◌, ◌<◌, Bool, false, List, Less, Equal, Greater, Ordering, is_ge, nat_cmp, inl, inr, length, map, refl, sym, ap, subst, arith}
use Rattle.std.{specs.Prelude.slice_index_or, specs.Cmp.Lexicographic.slice_cmp, specs.List.AllAdjacentBelow, proofs.lemmas.Bool.Decides.eqb_tells, proofs.lemmas.List.get_or-map}

abbrev IsBelow : List ℕ → List ℕ → Type 0
IsBelow x y = slice_cmp nat_cmp x y ≡ Less

is_less : (o : Ordering) → is_ge o ≡ false → o ≡ Less
is_less Less h = refl
is_less Equal h = cc (h)
is_less Greater h = cc (h)

-- what a comparison of two that stand side by side tells
pub in_order_more : {X : Type 0} (bytes : X → List ℕ) (xs : List X) (i : ℕ) (a b : X) (o : Bool) → 0 < i → i < length xs → a ≡ slice_index_or xs (i - 1) a → b ≡ slice_index_or xs i b
    → o ≡ is_ge (slice_cmp nat_cmp (bytes a) (bytes b)) → o ≡ false → AllAdjacentBelow (λ x y. slice_cmp nat_cmp x y ≡ Less) (map bytes xs) i → AllAdjacentBelow (λ x y. slice_cmp nat_cmp x y ≡ Less) (map bytes xs) (i + 1)
in_order_more bytes xs i a b o some inside a_is b_is told differs before k d h = elim (eqb_tells (k + 1) i) [ inl same ↦ last same.1 | inr other ↦ before k d (omega (arith, h, other.1)) ]
  where
    below : IsBelow (bytes a) (bytes b)
    below = is_less (slice_cmp nat_cmp (bytes a) (bytes b)) (sym told ∙ differs)

    first : bytes a ≡ slice_index_or (map bytes xs) (i - 1) d
    first = ap bytes a_is ∙ sym (get_or-map bytes xs (i - 1) a d (omega (arith, some, inside)))

    second : bytes b ≡ slice_index_or (map bytes xs) i d
    second = ap bytes b_is ∙ sym (get_or-map bytes xs i b d inside)

    both : IsBelow (slice_index_or (map bytes xs) (i - 1) d) (slice_index_or (map bytes xs) i d)
    both = subst (λ x. IsBelow x (slice_index_or (map bytes xs) i d)) first (subst (IsBelow (bytes a)) second below)

    last : k + 1 ≡ i → IsBelow (slice_index_or (map bytes xs) k d) (slice_index_or (map bytes xs) (k + 1) d)
    last same =
        let at : i - 1 ≡ k = omega (arith, same) in
        subst (λ j. IsBelow (slice_index_or (map bytes xs) k d) (slice_index_or (map bytes xs) j d)) (sym same) (subst (λ j. IsBelow (slice_index_or (map bytes xs) j d) (slice_index_or (map bytes xs) i d)) at both)
