-- A history whose effects have an event and a party each settles as the history of its effects does.
use Rattle.std.proofs.Common.{◌≡◌, ℕ, suc, ◌+◌, ◌<◌, ◌≤◌, List, [], ◌∷◌, ◌++◌, refl, ap, sym, ◌∙◌, arith, append-nil}
use Rattle.std.specs.List.{All, AllPairs}
use Rattle.std.proofs.lemmas.List.{Elements.All-nil, Elements.All-cons, Kept.AllPairs-cons}
use Rattle.queue_laws.specs.{Common.Vocabulary.Effect, Moment.Moments.displacements, Moment.Moments.others, Moment.Moments.settled}
use Rattle.queue_laws.specs.Moment.Entries.{Entry, effects_in, front_first, fronts_at, other_first, other_entries, settle_first, settle}

module _ {T : Type 0} where
  pub effects_append : (xs ys : List (Entry T)) → effects_in (xs ++ ys) ≡ effects_in xs ++ effects_in ys
  effects_append [] ys = refl
  effects_append (x ∷ xs) ys = ap (λ (l : List (Effect T)). x.effect ∷ l) (effects_append xs ys)

  abbrev pub entry : ℕ → ℕ → Effect T → Entry T
  entry n p e = record { event = n; party = p; effect = e }

  fronts_named : (n k p : ℕ) (e : Effect T) (ys : List (Entry T)) (es : List (Effect T)) → effects_in ys ≡ displacements es → effects_in (front_first n (entry k p e) e ys) ≡ displacements (e ∷ es)
  fronts_named n k p (Effect.Front old v) ys es is = ap (λ (l : List (Effect T)). Effect.Front old v ∷ Effect.Arrive ∷ l) is
  fronts_named n k p e ys es is = is

  pub effects_fronts : (n : ℕ) (xs : List (Entry T)) → effects_in (fronts_at n xs) ≡ displacements (effects_in xs)
  effects_fronts n [] = refl
  effects_fronts n (x ∷ xs) = fronts_named n x.event x.party x.effect (fronts_at n xs) (effects_in xs) (effects_fronts n xs)

  others_named : (k p : ℕ) (e : Effect T) (ys : List (Entry T)) (es : List (Effect T)) → effects_in ys ≡ others es → effects_in (other_first (entry k p e) e ys) ≡ others (e ∷ es)
  others_named k p (Effect.Append v) ys es is = ap (λ (l : List (Effect T)). Effect.Append v ∷ l) is
  others_named k p (Effect.Take v) ys es is = ap (λ (l : List (Effect T)). Effect.Take v ∷ l) is
  others_named k p (Effect.Replace old v) ys es is = ap (λ (l : List (Effect T)). Effect.Replace old v ∷ l) is
  others_named k p Effect.Close ys es is = ap (λ (l : List (Effect T)). Effect.Close ∷ l) is
  others_named k p Effect.SelfClose ys es is = ap (λ (l : List (Effect T)). Effect.SelfClose ∷ l) is
  others_named k p e ys es is = is

  pub effects_others : (xs : List (Entry T)) → effects_in (other_entries xs) ≡ others (effects_in xs)
  effects_others [] = refl
  effects_others (x ∷ xs) = others_named x.event x.party x.effect (other_entries xs) (effects_in xs) (effects_others xs)

  -- the effects of the displacements, of the close, and of what else there is
  close_named : (n p : ℕ) (xs : List (Entry T)) (es : List (Effect T)) → effects_in xs ≡ es ++ [] → others (effects_in xs) ≡ others es
      → effects_in (fronts_at n xs ++ entry n p Effect.Close ∷ other_entries xs) ≡ displacements (es ++ []) ++ Effect.Close ∷ others es
  close_named n p xs es is same =
      effects_append (fronts_at n xs) (entry n p Effect.Close ∷ other_entries xs)
      ∙ (λ i. (effects_fronts n xs ∙ ap displacements is) i ++ Effect.Close ∷ (effects_others xs ∙ same) i)

  settle_named : (n p : ℕ) (e : Effect T) (xs : List (Entry T)) → effects_in (settle xs) ≡ settled (effects_in xs) [] → effects_in (settle_first (entry n p e) e xs (settle xs)) ≡ settled (e ∷ effects_in xs) []
  settle_named n p (Effect.Append v) xs is = ap (λ (l : List (Effect T)). Effect.Append v ∷ l) is
  settle_named n p (Effect.Take v) xs is = ap (λ (l : List (Effect T)). Effect.Take v ∷ l) is
  settle_named n p (Effect.Replace old v) xs is = ap (λ (l : List (Effect T)). Effect.Replace old v ∷ l) is
  settle_named n p (Effect.Front old v) xs is = ap (λ (l : List (Effect T)). Effect.Front old v ∷ Effect.Arrive ∷ l) is
  settle_named n p Effect.Arrive xs is = is
  settle_named n p Effect.Close xs is = close_named n p xs (effects_in xs) (sym (append-nil (effects_in xs))) refl
  settle_named n p Effect.SelfClose xs is = ap (λ (l : List (Effect T)). Effect.SelfClose ∷ l) is

  pub effects_settle : (xs : List (Entry T)) → effects_in (settle xs) ≡ settled (effects_in xs) []
  effects_settle [] = refl
  effects_settle (x ∷ xs) = settle_named x.event x.party x.effect xs (effects_settle xs)

  -- the events rise strictly, from m on
  abbrev pub Rising : ℕ → List (Entry T) → Type 0
  Rising m [] = Unit {0}
  Rising m (x ∷ xs) = (m ≤ x.event) × Rising (x.event + 1) xs

  -- the events do not fall, from m on
  abbrev pub Flat : ℕ → List (Entry T) → Type 0
  Flat m [] = Unit {0}
  Flat m (x ∷ xs) = (m ≤ x.event) × Flat x.event xs

  pub flat_lower : (k m : ℕ) (xs : List (Entry T)) → k ≤ m → Flat m xs → Flat k xs
  flat_lower k m [] le flat = tt
  flat_lower k m (x ∷ xs) le flat = (let here = flat.0 in omega arith, flat.1)

  fronts_on : (n k p : ℕ) (e : Effect T) (ys zs : List (Entry T)) → Flat n (ys ++ zs) → Flat n (front_first n (entry k p e) e ys ++ zs)
  fronts_on n k p (Effect.Front old v) ys zs flat = (omega arith, (omega arith, flat))
  fronts_on n k p e ys zs flat = flat

  fronts_flat : (n : ℕ) (xs zs : List (Entry T)) → Flat n zs → Flat n (fronts_at n xs ++ zs)
  fronts_flat n [] zs flat = flat
  fronts_flat n (x ∷ xs) zs flat = fronts_on n x.event x.party x.effect (fronts_at n xs) zs (fronts_flat n xs zs flat)

  others_on : (m n p : ℕ) (e : Effect T) (ys : List (Entry T)) → m ≤ n → Flat (n + 1) ys → Flat m (other_first (entry n p e) e ys)
  others_on m n p (Effect.Front old v) ys le flat = flat_lower m (n + 1) ys (omega (arith, le)) flat
  others_on m n p Effect.Arrive ys le flat = flat_lower m (n + 1) ys (omega (arith, le)) flat
  others_on m n p e ys le flat = (le, flat_lower n (n + 1) ys (omega arith) flat)

  pub others_flat : (m : ℕ) (xs : List (Entry T)) → Rising m xs → Flat m (other_entries xs)
  others_flat m [] up = tt
  others_flat m (x ∷ xs) up = others_on m x.event x.party x.effect (other_entries xs) up.0 (others_flat (x.event + 1) xs up.1)

  settle_on : (m n p : ℕ) (e : Effect T) (xs : List (Entry T)) → m ≤ n → Rising (n + 1) xs → Flat (n + 1) (settle xs) → Flat m (settle_first (entry n p e) e xs (settle xs))
  settle_on m n p (Effect.Front old v) xs le up flat = (le, (omega arith, flat_lower n (n + 1) (settle xs) (omega arith) flat))
  settle_on m n p Effect.Arrive xs le up flat = flat_lower m (n + 1) (settle xs) (omega (arith, le)) flat
  settle_on m n p Effect.Close xs le up flat =
      flat_lower m n (fronts_at n xs ++ entry n p Effect.Close ∷ other_entries xs) le
      (fronts_flat n xs (entry n p Effect.Close ∷ other_entries xs) (omega arith, flat_lower n (n + 1) (other_entries xs) (omega arith) (others_flat (n + 1) xs up)))
  settle_on m n p e xs le up flat = (le, flat_lower n (n + 1) (settle xs) (omega arith) flat)

  pub settle_flat : (m : ℕ) (xs : List (Entry T)) → Rising m xs → Flat m (settle xs)
  settle_flat m [] up = tt
  settle_flat m (x ∷ xs) up = settle_on m x.event x.party x.effect xs up.0 up.1 (settle_flat (x.event + 1) xs up.1)

  -- the same in std's words
  flat_all : (m k : ℕ) (xs : List (Entry T)) → m ≤ k → Flat k xs → All (λ y. m ≤ y.event) xs
  flat_all m k [] le flat = All-nil (λ y. m ≤ y.event)
  flat_all m k (x ∷ xs) le flat = let here : m ≤ x.event = omega (arith, le, flat.0) in All-cons (λ y. m ≤ y.event) x xs here (flat_all m x.event xs here flat.1)

  pub flat_pairs : (m : ℕ) (xs : List (Entry T)) → Flat m xs → AllPairs (λ x y. x.event ≤ y.event) xs
  flat_pairs m [] flat = λ i j d lt inside. absurd (omega arith)
  flat_pairs m (x ∷ xs) flat = AllPairs-cons (λ x y. x.event ≤ y.event) x xs (flat_all x.event x.event xs (omega arith) flat.1) (flat_pairs x.event xs flat.1)

  pub pairs_rising : (m : ℕ) (xs : List (Entry T)) → AllPairs (λ x y. x.event < y.event) xs → All (λ y. m ≤ y.event) xs → Rising m xs
  pairs_rising m [] all from = tt
  pairs_rising m (x ∷ xs) all from = (
    from 0 x (omega arith),
    pairs_rising (x.event + 1) xs (λ i j d lt inside. all (suc i) (suc j) d (omega (arith, lt)) (omega (arith, inside)))
        (λ j d inside. let here = all 0 (suc j) d (omega arith) (omega (arith, inside)) in omega (arith, here)),
  )
