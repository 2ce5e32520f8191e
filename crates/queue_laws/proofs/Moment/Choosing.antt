-- What stands before an event, and what is a call's own, in a history and in what it settles into.
use Rattle.std.proofs.Common.{◌≡◌, ◌⊎◌, ℕ, ◌+◌, ◌≤◌, nat_lt, Bool, true, false, not, if◌then◌else◌, List, [], ◌∷◌, ◌++◌, refl, ap, sym, ◌∙◌, inl, inr, arith}
use Rattle.queue_laws.specs.{Common.Vocabulary.Effect, Moment.Moments.displacements, Moment.Moments.others, Moment.Moments.settled}
use Rattle.queue_laws.specs.Moment.Entries.{Entry, chosen, effects_in, front_first, fronts_at, other_first, other_entries, settle_first, settle}
use Rattle.queue_laws.proofs.Moment.Naming.{entry, Rising, Flat, settle_flat}

pub bool_or : (b : Bool) → (b ≡ true) ⊎ (b ≡ false)
bool_or true = inl refl
bool_or false = inr refl

is_late : (k n : ℕ) → n ≤ k → nat_lt k n ≡ false
is_late k n le = grind arith

late : (k n : ℕ) → nat_lt k n ≡ false → n ≤ k
late k n e = grind arith

module _ {T : Type 0} where
  pub chosen_yes : (f : Entry T → Bool) (x : Entry T) (xs : List (Entry T)) → f x ≡ true → chosen f (x ∷ xs) ≡ x.effect ∷ chosen f xs
  chosen_yes f x xs e = ap (λ (b : Bool). if b then x.effect ∷ chosen f xs else chosen f xs) e

  pub chosen_not : (f : Entry T → Bool) (x : Entry T) (xs : List (Entry T)) → f x ≡ false → chosen f (x ∷ xs) ≡ chosen f xs
  chosen_not f x xs e = ap (λ (b : Bool). if b then x.effect ∷ chosen f xs else chosen f xs) e

  pub chosen_append : (f : Entry T → Bool) (xs ys : List (Entry T)) → chosen f (xs ++ ys) ≡ chosen f xs ++ chosen f ys
  chosen_append f [] ys = refl
  chosen_append f (x ∷ xs) ys =
      elim (bool_or (f x)) [
        | inl e ↦ chosen_yes f x (xs ++ ys) e ∙ (ap (λ (l : List (Effect T)). x.effect ∷ l) (chosen_append f xs ys) ∙ ap (λ (l : List (Effect T)). l ++ chosen f ys) (sym (chosen_yes f x xs e)))
        | inr e ↦ chosen_not f x (xs ++ ys) e ∙ (chosen_append f xs ys ∙ ap (λ (l : List (Effect T)). l ++ chosen f ys) (sym (chosen_not f x xs e)))
      ]

  -- the other effects of those that pass
  pub keeps_plain : (f : Entry T → Bool) (x : Entry T) (ys xs : List (Entry T)) → ((l : List (Effect T)) → others (x.effect ∷ l) ≡ x.effect ∷ others l) → chosen f ys ≡ others (chosen f xs) → chosen f (x ∷ ys) ≡ others (chosen f (x ∷ xs))
  keeps_plain f x ys xs plain is =
      elim (bool_or (f x)) [
        | inl e ↦ chosen_yes f x ys e ∙ (ap (λ (l : List (Effect T)). x.effect ∷ l) is ∙ (sym (plain (chosen f xs)) ∙ ap others (sym (chosen_yes f x xs e))))
        | inr e ↦ chosen_not f x ys e ∙ (is ∙ ap others (sym (chosen_not f x xs e)))
      ]

  pub drops_part : (f : Entry T → Bool) (x : Entry T) (xs : List (Entry T)) (s : List (Effect T)) → ((l : List (Effect T)) → others (x.effect ∷ l) ≡ others l) → s ≡ others (chosen f xs) → s ≡ others (chosen f (x ∷ xs))
  drops_part f x xs s part is =
      elim (bool_or (f x)) [
        | inl e ↦ is ∙ (sym (part (chosen f xs)) ∙ ap others (sym (chosen_yes f x xs e)))
        | inr e ↦ is ∙ ap others (sym (chosen_not f x xs e))
      ]

  others_named : (f : Entry T → Bool) (n p : ℕ) (e : Effect T) (xs : List (Entry T)) → chosen f (other_entries xs) ≡ others (chosen f xs) → chosen f (other_first (entry n p e) e (other_entries xs)) ≡ others (chosen f (entry n p e ∷ xs))
  others_named f n p (Effect.Front old v) xs is = drops_part f (entry n p (Effect.Front old v)) xs (chosen f (other_entries xs)) (λ l. refl) is
  others_named f n p Effect.Arrive xs is = drops_part f (entry n p Effect.Arrive) xs (chosen f (other_entries xs)) (λ l. refl) is
  others_named f n p e xs is = keeps_plain f (entry n p e) (other_entries xs) xs (λ l. refl) is

  pub chosen_others : (f : Entry T → Bool) (xs : List (Entry T)) → chosen f (other_entries xs) ≡ others (chosen f xs)
  chosen_others f [] = refl
  chosen_others f (x ∷ xs) = others_named f x.event x.party x.effect xs (chosen_others f xs)

  -- before the event n, and from it on
  abbrev pub before : ℕ → List (Entry T) → List (Effect T)
  before n xs = chosen (λ x. nat_lt x.event n) xs

  abbrev pub later : ℕ → List (Entry T) → List (Effect T)
  later n xs = chosen (λ x. not (nat_lt x.event n)) xs

  none_before : (n m : ℕ) (xs : List (Entry T)) → n ≤ m → Flat m xs → before n xs ≡ []
  none_before n m [] le flat = refl
  none_before n m (x ∷ xs) le flat =
      chosen_not (λ y. nat_lt y.event n) x xs (is_late x.event n (omega (arith, le, flat.0))) ∙ none_before n x.event xs (omega (arith, le, flat.0)) flat.1

  all_later : (n m : ℕ) (xs : List (Entry T)) → n ≤ m → Flat m xs → later n xs ≡ effects_in xs
  all_later n m [] le flat = refl
  all_later n m (x ∷ xs) le flat =
      chosen_yes (λ y. not (nat_lt y.event n)) x xs (ap not (is_late x.event n (omega (arith, le, flat.0)))) ∙ ap (λ (l : List (Effect T)). x.effect ∷ l) (all_later n x.event xs (omega (arith, le, flat.0)) flat.1)

  flat_from : (k m : ℕ) (xs : List (Entry T)) → k ≤ m → Rising m xs → Flat k xs
  flat_from k m [] le up = tt
  flat_from k m (x ∷ xs) le up = (let here = up.0 in omega arith, flat_from x.event (x.event + 1) xs (omega arith) up.1)

  pub both_parts : (n m : ℕ) (xs : List (Entry T)) → Rising m xs → before n xs ++ later n xs ≡ effects_in xs
  both_parts n m [] up = refl
  both_parts n m (x ∷ xs) up =
      elim (bool_or (nat_lt x.event n)) [
        | inl e ↦ (λ i. chosen_yes (λ y. nat_lt y.event n) x xs e i ++ chosen_not (λ y. not (nat_lt y.event n)) x xs (ap not e) i) ∙ ap (λ (l : List (Effect T)). x.effect ∷ l) (both_parts n (x.event + 1) xs up.1)
        | inr e ↦
            let le = late x.event n e in let flat : Flat x.event (x ∷ xs) = (omega arith, flat_from x.event (x.event + 1) xs (omega arith) up.1) in
            (λ i. none_before n x.event (x ∷ xs) le flat i ++ all_later n x.event (x ∷ xs) le flat i)
      ]

  front_before : (n k p q : ℕ) (old v : T) (ys : List (Entry T)) (es : List (Effect T)) → nat_lt k n ≡ true → before n ys ≡ es → before n (entry k p (Effect.Front old v) ∷ entry k q Effect.Arrive ∷ ys) ≡ Effect.Front old v ∷ Effect.Arrive ∷ es
  front_before n k p q old v ys es e is =
      chosen_yes (λ y. nat_lt y.event n) (entry k p (Effect.Front old v)) (entry k q Effect.Arrive ∷ ys) e
      ∙ ap (λ (l : List (Effect T)). Effect.Front old v ∷ l) (chosen_yes (λ y. nat_lt y.event n) (entry k q Effect.Arrive) ys e ∙ ap (λ (l : List (Effect T)). Effect.Arrive ∷ l) is)

  fronts_named : (n k j p : ℕ) (e : Effect T) (ys : List (Entry T)) (es : List (Effect T)) → nat_lt k n ≡ true → before n ys ≡ displacements es → before n (front_first k (entry j p e) e ys) ≡ displacements (e ∷ es)
  fronts_named n k j p (Effect.Front old v) ys es e is = front_before n k p p old v ys (displacements es) e is
  fronts_named n k j p x ys es e is = is

  fronts_before : (n k : ℕ) (xs : List (Entry T)) → nat_lt k n ≡ true → before n (fronts_at k xs) ≡ displacements (effects_in xs)
  fronts_before n k [] e = refl
  fronts_before n k (x ∷ xs) e = fronts_named n k x.event x.party x.effect (fronts_at k xs) (effects_in xs) e (fronts_before n k xs e)

  one_before : (n k p : ℕ) (e : Effect T) (ys : List (Entry T)) (es : List (Effect T)) → nat_lt k n ≡ true → before n ys ≡ es → before n (entry k p e ∷ ys) ≡ e ∷ es
  one_before n k p e ys es yes_so is = chosen_yes (λ y. nat_lt y.event n) (entry k p e) ys yes_so ∙ ap (λ (l : List (Effect T)). e ∷ l) is

  before_named : (n k p : ℕ) (e : Effect T) (xs : List (Entry T)) → nat_lt k n ≡ true → before n xs ++ later n xs ≡ effects_in xs → before n (settle xs) ≡ settled (before n xs) (later n xs)
      → before n (settle_first (entry k p e) e xs (settle xs)) ≡ settled (e ∷ before n xs) (later n xs)
  before_named n k p (Effect.Front old v) xs e both is = front_before n k p p old v (settle xs) (settled (before n xs) (later n xs)) e is
  before_named n k p Effect.Arrive xs e both is = is
  before_named n k p Effect.Close xs e both is =
      chosen_append (λ y. nat_lt y.event n) (fronts_at k xs) (entry k p Effect.Close ∷ other_entries xs)
      ∙ (λ i. (fronts_before n k xs e ∙ ap displacements (sym both)) i ++ one_before n k p Effect.Close (other_entries xs) (others (before n xs)) e (chosen_others (λ y. nat_lt y.event n) xs) i)
  before_named n k p x xs e both is = one_before n k p x (settle xs) (settled (before n xs) (later n xs)) e is

  pub settle_before : (n m : ℕ) (xs : List (Entry T)) → Rising m xs → before n (settle xs) ≡ settled (before n xs) (later n xs)
  settle_before n m [] up = refl
  settle_before n m (x ∷ xs) up =
      elim (bool_or (nat_lt x.event n)) [
        | inl e ↦
            before_named n x.event x.party x.effect xs e (both_parts n (x.event + 1) xs up.1) (settle_before n (x.event + 1) xs up.1)
            ∙ (λ i. settled (sym (chosen_yes (λ y. nat_lt y.event n) x xs e) i) (sym (chosen_not (λ y. not (nat_lt y.event n)) x xs (ap not e)) i))
        | inr e ↦
            let le = late x.event n e in let here : Rising x.event (x ∷ xs) = (omega arith, up.1) in
            none_before n x.event (settle (x ∷ xs)) le (settle_flat x.event (x ∷ xs) here)
            ∙ ap (λ (l : List (Effect T)). settled l (later n (x ∷ xs))) (sym (none_before n x.event (x ∷ xs) le (flat_from x.event x.event (x ∷ xs) (omega arith) here)))
      ]
