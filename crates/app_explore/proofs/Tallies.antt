-- What is counted of outcomes, one more.
use Rattle.std.proofs.Common.{◌≡◌, ◌∙◌, ◌+◌, ◌<◌, ◌++◌, ◌∷◌, [], ℕ, List, length, map, take, sym, ap, arith, append_assoc, Result, Ok, Err, OnOk}
use Rattle.std.{specs.Prelude.slice_index_or, proofs.lemmas.List.map_more}
use Rattle.app_explore.specs.Tails.{Tail, none_of, without_order}

without_order-more : (ts : List Tail) (t : Tail) → without_order (ts ++ t ∷ []) ≡ without_order ts + none_of t.order
without_order-more [] t = omega arith
without_order-more (u ∷ us) t = let rest = without_order-more us t in omega (arith, rest)

-- one more outcome is counted, if it has no order
pub counted_more : {X : Type 0} (tail : X → Tail) (xs : List X) (i : ℕ) (x : X) → i < length xs → x ≡ slice_index_or xs i x → without_order (map tail (take (i + 1) xs)) ≡ without_order (map tail (take i xs)) + none_of (tail x).order
counted_more tail xs i x inside is = ap without_order (map_more tail xs i x inside ∙ ap (λ y. map tail (take i xs) ++ tail y ∷ []) (sym is)) ∙ without_order-more (map tail (take i xs)) (tail x)

-- two texts were appended, one after the other
pub joined_two : (t0 t1 t2 a b : List ℕ) → t1 ≡ t0 ++ a → t2 ≡ t1 ++ b → t2 ≡ t0 ++ (a ++ b)
joined_two t0 t1 t2 a b first second = second ∙ ap (λ t. t ++ b) first ∙ append_assoc t0 a b

-- three texts were appended, one after another
pub joined : {E : Type 0} (t0 t1 t2 t3 a b c : List ℕ) (r : Result Unit E) → t1 ≡ t0 ++ a → t2 ≡ t1 ++ b → OnOk r (t3 ≡ t2 ++ c) → OnOk r (t3 ≡ t0 ++ (a ++ b ++ c))
joined t0 t1 t2 t3 a b c (Ok u) first second third = third ∙ ap (λ t. t ++ c) (joined_two t0 t1 t2 a b first second) ∙ append_assoc t0 (a ++ b) c
joined t0 t1 t2 t3 a b c (Err e) first second third = tt
