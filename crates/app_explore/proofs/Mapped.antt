-- A list with one thing made of each item of another list, one more.
use Rattle.std.proofs.Common.{◌≡◌, ◌∙◌, ◌+◌, ◌<◌, ◌≤◌, ◌++◌, ◌∷◌, [], ℕ, List, length, map, take, refl, sym, ap}
use Rattle.std.specs.Prelude.{slice_index_or}
use Rattle.std.proofs.lemmas.List.{map_more, map_push, take_all}

module _ {X Y Z : Type 0} (f : X → Z) (h : Y → Z) (ys : List Y) (i : ℕ) where
  pub mapped_more : (old new : List X) (x : X) (y : Y) → i < length ys → y ≡ slice_index_or ys i y → map f old ≡ map h (take i ys) → f x ≡ h y → new ≡ old ++ x ∷ [] → map f new ≡ map h (take (i + 1) ys)
  mapped_more old new x y inside y_is before same more =
      ap (map f) more ∙ map_push f old x ∙ ap (λ l. l ++ f x ∷ []) before ∙ ap (λ z. map h (take i ys) ++ z ∷ []) (same ∙ ap h y_is) ∙ sym (map_more h ys i y inside)

  pub mapped_all : (xs : List X) → map f xs ≡ map h (take i ys) → length ys ≤ i → map f xs ≡ map h ys
  mapped_all xs before past = before ∙ ap (map h) (take_all i ys past)

pub mapped_twice : {X Y Z : Type 0} (f : X → Y) (h : Y → Z) (xs : List X) → map (λ x. h (f x)) xs ≡ map h (map f xs)
mapped_twice f h [] = refl
mapped_twice f h (x ∷ xs) = ap (λ l. h (f x) ∷ l) (mapped_twice f h xs)
