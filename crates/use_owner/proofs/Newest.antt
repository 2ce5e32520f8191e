-- The last items of a list.
use Rattle.std.proofs.Common.{◌≡◌, ℕ, ◌+◌, ◌-◌, ◌≤◌, List, [], ◌∷◌, ◌++◌, length, drop, Option, Some, None, inl, inr, refl, ap, sym, subst, ◌∙◌, arith, length-append}
use Rattle.std.specs.{Prelude.IfSome, Option.option_to_list}
use Rattle.std.proofs.lemmas.{List.drop-append-le, List.drop-drop, List.length-drop, Bool.Decides.leb_tells}
use Rattle.use_owner.specs.Log.{newest}

module _ {T : Type 0} where
  -- a list that is short enough is its own end
  pub newest_all : (k : ℕ) (xs : List T) → length xs ≤ k → newest k xs ≡ xs
  newest_all k xs le = let none : length xs - k ≡ 0 = omega arith in rw none refl

  -- one item more behind the last k: the last k of all
  pub newest_on : (k : ℕ) (xs : List T) (x : T) → newest k (newest k xs ++ x ∷ []) ≡ newest k (xs ++ x ∷ [])
  newest_on k xs x = elim (leb_tells (length xs) k) [ inl h ↦ short h.1 | inr h ↦ long (let more = h.1 in omega arith) ]
    where
      short : length xs ≤ k → newest k (newest k xs ++ x ∷ []) ≡ newest k (xs ++ x ∷ [])
      short le = ap (λ (ys : List T). newest k (ys ++ x ∷ [])) (newest_all k xs le)

      long : k ≤ length xs → newest k (newest k xs ++ x ∷ []) ≡ newest k (xs ++ x ∷ [])
      long le =
          let m : ℕ = length xs - k in
          let is : newest k xs ++ x ∷ [] ≡ drop m (xs ++ x ∷ []) = sym (drop-append-le m xs (x ∷ []) (omega arith)) in
          let all = length-append xs (x ∷ []) in
          let some = length-drop m (xs ++ x ∷ []) in
          let one : length (drop m (xs ++ x ∷ [])) - k ≡ 1 = omega arith in
          let more : m + 1 ≡ length (xs ++ x ∷ []) - k = omega arith in
          ap (newest k) is ∙ (ap (λ (n : ℕ). drop n (drop m (xs ++ x ∷ []))) one ∙ (drop-drop 1 m (xs ++ x ∷ []) ∙ ap (λ (n : ℕ). drop n (xs ++ x ∷ [])) more))

  -- what is left of a list whose front may be off: the front is off only where it was one item too long
  pub newest_one : (k : ℕ) (ys xs : List T) (gone : Option T) → option_to_list gone ++ ys ≡ xs → length ys ≤ k → IfSome gone (λ front. length ys ≡ k) → ys ≡ newest k xs
  newest_one k ys xs None is most full = is ∙ sym (newest_all k xs (subst (λ (l : List T). length l ≤ k) is most))
  newest_one k ys xs (Some x) is most full =
      let one : length (x ∷ ys) - k ≡ 1 = omega (arith, full) in
      subst (λ (l : List T). ys ≡ newest k l) is (rw one refl)
