-- Places at which the effects of a call stand.
use Rattle.std.proofs.Common.{◌≡◌, ℕ, zero, suc, ◌+◌, ◌<◌, ◌≤◌, ◌≢◌, List, [], ◌∷◌, ◌++◌, length, refl, ap, sym, ◌∙◌, subst, append_assoc, length-append, arith}
use Rattle.std.specs.List.{All, AllPairs, Contains}
use Rattle.std.proofs.lemmas.{List.Elements.All-nil, List.Elements.All-cons, List.Elements.All-weaker, List.Elements.All-contains, List.Kept.AllPairs-cons, Map.Made.Contains-tail}
use mathlib.Core.{Logic.dite, List.IsPrefix, Option.some, Option.some-injective, Option.some-ne-none}
use native.Mathlib.Decide.{ℕ_discrete}
use lib.ListN.{get_elem?}
use Rattle.queue_steps.specs.{declared.model.Effect.Effect, Parties.StandAt}

module _ {T : Type 0} where
  pub below_at : (t : List (Effect T)) (p : ℕ) (e : Effect T) → get_elem? t p ≡ some e → p < length t
  below_at [] p e is = absurd (some-ne-none e (sym is))
  below_at (x ∷ t) zero e is = omega arith
  below_at (x ∷ t) (suc p) e is = omega (arith, below_at t p e is)

  at_end : (s d : List (Effect T)) (x : Effect T) → get_elem? (s ++ x ∷ d) (length s) ≡ some x
  at_end [] d x = refl
  at_end (y ∷ s) d x = at_end s d x

  -- places at which effects stand lie in the history, from n on and none twice
  pub stand_from : (t : List (Effect T)) (n : ℕ) (ps : List ℕ) (es : List (Effect T)) → StandAt t n ps es → All (λ p. n ≤ p) ps
  stand_from t n [] [] s = All-nil (λ p. n ≤ p)
  stand_from t n (q ∷ ps) (e ∷ es) s = All-cons (λ p. n ≤ p) q ps s.0 (All-weaker (λ p. q + 1 ≤ p) (λ p. n ≤ p) (λ p le. omega (arith, le, s.0)) ps (stand_from t (q + 1) ps es s.2))
  stand_from t n [] (e ∷ es) s = absurd s
  stand_from t n (q ∷ ps) [] s = absurd s

  pub stand_once : (t : List (Effect T)) (n : ℕ) (ps : List ℕ) (es : List (Effect T)) → StandAt t n ps es → AllPairs (λ p q. p ≢ q) ps
  stand_once t n [] [] s = λ i j d lt inside. absurd (omega arith)
  stand_once t n (q ∷ ps) (e ∷ es) s =
      AllPairs-cons (λ p q. p ≢ q) q ps (All-weaker (λ p. q + 1 ≤ p) (λ p. q ≢ p) (λ p le same. omega (arith, le, same)) ps (stand_from t (q + 1) ps es s.2)) (stand_once t (q + 1) ps es s.2)
  stand_once t n [] (e ∷ es) s = absurd s
  stand_once t n (q ∷ ps) [] s = absurd s

  pub stand_inside : (t : List (Effect T)) (n : ℕ) (ps : List ℕ) (es : List (Effect T)) → StandAt t n ps es → All (λ p. p < length t) ps
  stand_inside t n [] [] s = All-nil (λ p. p < length t)
  stand_inside t n (q ∷ ps) (e ∷ es) s = All-cons (λ p. p < length t) q ps (below_at t q e s.1) (stand_inside t (q + 1) ps es s.2)
  stand_inside t n [] (e ∷ es) s = absurd s
  stand_inside t n (q ∷ ps) [] s = absurd s

  -- each place of t from n on is one of these
  abbrev pub Fills : List (Effect T) → ℕ → List ℕ → Type 0
  Fills t n ps = (q : ℕ) → n ≤ q → q < length t → Contains ps q

  -- then the first of them is n
  pub first_place : (t : List (Effect T)) (n p : ℕ) (ps : List ℕ) (e : Effect T) (es : List (Effect T)) → StandAt t n (p ∷ ps) (e ∷ es) → Fills t n (p ∷ ps) → p ≡ n
  first_place t n p ps e es s all =
      let here = s.0 in let inside = below_at t p e s.1 in
      dite (ℕ_discrete p n) (λ same. same) (λ (other : p ≢ n).
      let later : p + 1 ≤ n = All-contains (λ q. p + 1 ≤ q) ps n (stand_from t (p + 1) ps es s.2) (Contains-tail p ps n other (all n (omega arith) (omega arith))) in absurd (omega arith))

  rest_fills : (t : List (Effect T)) (n p : ℕ) (ps : List ℕ) → p ≡ n → Fills t n (p ∷ ps) → Fills t (n + 1) ps
  rest_fills t n p ps is all q le inside = Contains-tail p ps q (λ same. omega (arith, le, is, same)) (all q (omega (arith, le)) inside)

  -- where a history goes on from s by nothing but these effects, it is s and they
  pub only_these : (t s : List (Effect T)) (ps : List ℕ) (es : List (Effect T)) → IsPrefix s t → StandAt t (length s) ps es → Fills t (length s) ps → t ≡ s ++ es
  only_these t s [] [] ([], is) stand all = sym is
  only_these t s [] [] (x ∷ d, is) stand all =
      let long : length t ≡ length s + suc (length d) = sym (ap length is) ∙ length-append s (x ∷ d) in let here = all (length s) (omega arith) (omega (arith, long)) in absurd (omega (arith, here.1))
  only_these t s (p ∷ ps) (e ∷ es) ([], is) stand all =
      let long : length t ≡ length s + 0 = sym (ap length is) ∙ length-append s [] in absurd (omega (arith, long, stand.0, below_at t p e stand.1))
  only_these t s (p ∷ ps) (e ∷ es) (x ∷ d, is) stand all =
      let first : p ≡ length s = first_place t (length s) p ps e es stand all in
      let same : x ≡ e = some-injective x e (sym (at_end s d x) ∙ (ap (λ (l : List (Effect T)). get_elem? l (length s)) is ∙ (ap (get_elem? t) (sym first) ∙ stand.1))) in
      let more : length (s ++ e ∷ []) ≡ length s + 1 = length-append s (e ∷ []) in
      let begins : (s ++ e ∷ []) ++ d ≡ t = append_assoc s (e ∷ []) d ∙ ((λ i. s ++ sym same i ∷ d) ∙ is) in
      let after : p + 1 ≡ length (s ++ e ∷ []) = omega (arith, first, more) in
      only_these t (s ++ e ∷ []) ps es (d, begins) (subst (λ (n : ℕ). StandAt t n ps es) after stand.2)
      (subst (λ (n : ℕ). Fills t n ps) (sym more) (rest_fills t (length s) p ps first all))
      ∙ append_assoc s (e ∷ []) es
  only_these t s [] (e ∷ es) d stand all = absurd stand
  only_these t s (p ∷ ps) [] d stand all = absurd stand
