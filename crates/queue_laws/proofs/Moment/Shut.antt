-- What every effect keeps; and facts on each element of a list.
use Rattle.std.proofs.Common.{◌≡◌, ◌⊎◌, ℕ, zero, suc, ◌<◌, Bool, true, List, [], ◌∷◌, ◌++◌, length, refl, ap, sym, ◌∙◌, subst, inl, inr, arith}
use Rattle.std.specs.List.{AllByRecursion}
use mathlib.Core.Option.{some, some-injective}
use lib.ListN.{get_elem?}
use Rattle.queue_steps.specs.{State.State, Effect.made, Effect.after_from}
use Rattle.queue_laws.specs.{Common.Vocabulary.Effect, Moment.Entries.Entry, Moment.Entries.chosen}
use Rattle.queue_laws.proofs.Moment.Choosing.{bool_or, chosen_yes, chosen_not}

-- x is one of these
abbrev pub In : {X : Type 0} → X → List X → Type 0
In x [] = ⊥
In x (y ∷ ys) = (y ≡ x) ⊎ In x ys

pub each_with : {X : Type 0} (P Q : X → Type 0) (xs : List X) → ((x : X) → In x xs → P x → Q x) → AllByRecursion P xs → AllByRecursion Q xs
each_with P Q [] on all = tt
each_with P Q (x ∷ xs) on all = (on x (inl refl) all.0, each_with P Q xs (λ y has. on y (inr has)) all.1)

pub each_in : {X : Type 0} (P : X → Type 0) (xs : List X) (x : X) → AllByRecursion P xs → In x xs → P x
each_in P [] x all has = absurd has
each_in P (y ∷ xs) x all (inl is) = subst P is all.0
each_in P (y ∷ xs) x all (inr has) = each_in P xs x all.1 has

pub each_append : {X : Type 0} (P : X → Type 0) (xs ys : List X) → AllByRecursion P xs → AllByRecursion P ys → AllByRecursion P (xs ++ ys)
each_append P [] ys all more = more
each_append P (x ∷ xs) ys all more = (all.0, each_append P xs ys all.1 more)

module _ {T : Type 0} where
  -- no effect opens a closed queue
  closed_made : (e : Effect T) (Q : State T) → Q.closed ≡ true → (made e Q).closed ≡ true
  closed_made Effect.Close Q h = refl
  closed_made Effect.SelfClose Q h = refl
  closed_made e Q h = h

  closed_on : (Q : State T) (es : List (Effect T)) → Q.closed ≡ true → (after_from Q es).closed ≡ true
  closed_on Q [] h = h
  closed_on Q (e ∷ es) h = closed_on (made e Q) es (closed_made e Q h)

  closes_on : (e : Effect T) (Q : State T) → e ≡ Effect.Close → (made e Q).closed ≡ true
  closes_on e Q is = ap (λ (d : Effect T). (made d Q).closed) is

  -- where a close is chosen, the queue is closed after
  pub closed_by : (Q : State T) (f : Entry T → Bool) (H : List (Entry T)) (x : Entry T) → In x H → f x ≡ true → x.effect ≡ Effect.Close → (after_from Q (chosen f H)).closed ≡ true
  closed_by Q f [] x has pass is = absurd has
  closed_by Q f (y ∷ H) x (inl same) pass is =
      let here : f y ≡ true = ap f same ∙ pass in
      let shut : (made y.effect Q).closed ≡ true = closes_on y.effect Q (ap (λ (z : Entry T). z.effect) same ∙ is) in
      subst (λ (l : List (Effect T)). (after_from Q l).closed ≡ true) (sym (chosen_yes f y H here)) (closed_on (made y.effect Q) (chosen f H) shut)
  closed_by Q f (y ∷ H) x (inr has) pass is =
      elim (bool_or (f y)) [
        | inl e ↦ subst (λ (l : List (Effect T)). (after_from Q l).closed ≡ true) (sym (chosen_yes f y H e)) (closed_by (made y.effect Q) f H x has pass is)
        | inr e ↦ subst (λ (l : List (Effect T)). (after_from Q l).closed ≡ true) (sym (chosen_not f y H e)) (closed_by Q f H x has pass is)
      ]

  -- where a close stands within the beginning of a history, the queue is closed after that
  pub closed_within : (Q : State T) (s d : List (Effect T)) (k : ℕ) → get_elem? (s ++ d) k ≡ some Effect.Close → k < length s → (after_from Q s).closed ≡ true
  closed_within Q [] d k is lt = absurd (omega arith)
  closed_within Q (e ∷ s) d zero is lt = closed_on (made e Q) s (closes_on e Q (some-injective e Effect.Close is))
  closed_within Q (e ∷ s) d (suc k) is lt = closed_within (made e Q) s d k is (omega arith)
