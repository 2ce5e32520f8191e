-- What a slice gives at an index.
use Rattle.std.proofs.Common.{◌≡◌, ◌+◌, ◌<◌, ◌≤◌, ◌∙◌, ◌++◌, ◌∷◌, [], ℕ, Bor, List, None, Option, Some, ap, arith, length, sym, take}
use Rattle.std.proofs.lemmas.{List.take_all, List.take_more, Option.slice_get-get_or, Option.slice_get_past}
use Rattle.std.specs.{List.HoldsAt, Prelude.MatchOption, Prelude.option_copied, Prelude.slice_get, Prelude.slice_index_or}

-- a copy of what stands there is the item at that index
pub copied-is : {X : Type 0} (xs : List X) (i : ℕ) (r : Option (Bor X)) → MatchOption r (length xs ≤ i) (λ x. (i < length xs) × HoldsAt (λ y. x.now ≡ y) xs i) → option_copied r ≡ slice_get xs i
copied-is xs i None past = sym (slice_get_past xs i past)
copied-is xs i (Some x) (inside, at) = ap Some (at x.now) ∙ sym (slice_get-get_or xs i x.now inside)

-- two lists that are the same as far as an index, and there, are so one item further
pub same-more : {X : Type 0} (xs ys : List X) (i : ℕ) (x y : X) → length xs ≡ length ys → i < length xs → x ≡ slice_index_or xs i x → y ≡ slice_index_or ys i y → x ≡ y → take i xs ≡ take i ys → take (i + 1) xs ≡ take (i + 1) ys
same-more xs ys i x y size inside at_x at_y same so_far =
    let more_xs : take (i + 1) xs ≡ take i xs ++ x ∷ [] = take_more xs i x inside ∙ ap (λ z. take i xs ++ z ∷ []) (sym at_x) in
    let within : i < length ys = omega (arith, size, inside) in
    let more_ys : take (i + 1) ys ≡ take i ys ++ y ∷ [] = take_more ys i y within ∙ ap (λ z. take i ys ++ z ∷ []) (sym at_y) in
    more_xs ∙ ap (λ l. l ++ x ∷ []) so_far ∙ ap (λ z. take i ys ++ z ∷ []) same ∙ sym more_ys

-- two lists of one length that are the same as far as their end are the same
pub same-whole : {X : Type 0} (xs ys : List X) (i : ℕ) → length xs ≡ length ys → length xs ≤ i → take i xs ≡ take i ys → xs ≡ ys
same-whole xs ys i size past so_far =
    let past_ys : length ys ≤ i = omega (arith, size, past) in
    sym (take_all i xs past) ∙ so_far ∙ take_all i ys past_ys
