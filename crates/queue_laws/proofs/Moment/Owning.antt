-- The effects of one call stay its own where a history settles.
use Rattle.std.proofs.Common.{◌≡◌, ◌⊎◌, ℕ, Bool, false, List, [], ◌∷◌, ◌++◌, refl, ap, sym, ◌∙◌, subst, inl, inr, append-nil}
use Rattle.queue_laws.specs.{Common.Vocabulary.Call, Common.Vocabulary.Reply, Common.Vocabulary.Effect, Moment.Moments.displacements, Moment.Moments.others}
use Rattle.queue_steps.specs.{Replies.Tells, Effect.rest}
use Rattle.queue_laws.proofs.Common.TellsAs.{TellsAs, nothing, append, take, replace, displace, close, self_close, tells_as}
use Rattle.queue_laws.specs.Moment.Entries.{Entry, front_first, fronts_at, other_entries, settle_first, settle, SeesNoMove, KeepsFronts, own_of}
use Rattle.queue_laws.proofs.Moment.{Naming.entry, Choosing.bool_or, Choosing.chosen_yes, Choosing.chosen_not, Choosing.chosen_append, Choosing.chosen_others, Choosing.keeps_plain, Choosing.drops_part}

module _ {T : Type 0} where
  abbrev passes : (ℕ → ℕ → Bool) → Entry T → Bool
  passes own x = own x.party x.event

  -- an effect that is no front adds no displacement
  drops_other : (own : ℕ → ℕ → Bool) (x : Entry T) (xs : List (Entry T)) → ((l : List (Effect T)) → displacements (x.effect ∷ l) ≡ displacements l) → displacements (own_of own xs) ≡ displacements (own_of own (x ∷ xs))
  drops_other own x xs other =
      elim (bool_or (passes own x)) [
        | inl e ↦ sym (other (own_of own xs)) ∙ ap displacements (sym (chosen_yes (passes own) x xs e))
        | inr e ↦ ap displacements (sym (chosen_not (passes own) x xs e))
      ]

  -- a front that the call sees or does not see alike at both events
  front_own : (own : ℕ → ℕ → Bool) (n k p : ℕ) (old v : T) (ys xs : List (Entry T)) → own p n ≡ own p k → own_of own ys ≡ displacements (own_of own xs)
      → own_of own (entry n p (Effect.Front old v) ∷ entry n p Effect.Arrive ∷ ys) ≡ displacements (own_of own (entry k p (Effect.Front old v) ∷ xs))
  front_own own n k p old v ys xs same is =
      elim (bool_or (own p k)) [
        | inl e ↦
            chosen_yes (passes own) (entry n p (Effect.Front old v)) (entry n p Effect.Arrive ∷ ys) (same ∙ e)
            ∙ (ap (λ (l : List (Effect T)). Effect.Front old v ∷ l) (chosen_yes (passes own) (entry n p Effect.Arrive) ys (same ∙ e) ∙ ap (λ (l : List (Effect T)). Effect.Arrive ∷ l) is)
            ∙ ap displacements (sym (chosen_yes (passes own) (entry k p (Effect.Front old v)) xs e)))
        | inr e ↦
            chosen_not (passes own) (entry n p (Effect.Front old v)) (entry n p Effect.Arrive ∷ ys) (same ∙ e)
            ∙ (chosen_not (passes own) (entry n p Effect.Arrive) ys (same ∙ e) ∙ (is ∙ ap displacements (sym (chosen_not (passes own) (entry k p (Effect.Front old v)) xs e))))
      ]

  fronts_named : (own : ℕ → ℕ → Bool) (n k p : ℕ) (e : Effect T) (ys xs : List (Entry T)) → ((old v : T) → e ≡ Effect.Front old v → own p n ≡ own p k) → own_of own ys ≡ displacements (own_of own xs)
      → own_of own (front_first n (entry k p e) e ys) ≡ displacements (own_of own (entry k p e ∷ xs))
  fronts_named own n k p (Effect.Front old v) ys xs same is = front_own own n k p old v ys xs (same old v refl) is
  fronts_named own n k p e ys xs same is = is ∙ drops_other own (entry k p e) xs (λ l. refl)

  own_fronts : (own : ℕ → ℕ → Bool) (n : ℕ) (xs : List (Entry T)) → SeesNoMove own n xs → own_of own (fronts_at n xs) ≡ displacements (own_of own xs)
  own_fronts own n [] still = refl
  own_fronts own n (x ∷ xs) still = fronts_named own n x.event x.party x.effect (fronts_at n xs) xs still.0 (own_fronts own n xs still.1)

  not_own : (own : ℕ → ℕ → Bool) (n p : ℕ) (old v : T) (xs : List (Entry T)) → displacements (own_of own (entry n p (Effect.Front old v) ∷ xs)) ≡ [] → own p n ≡ false
  not_own own n p old v xs none =
      elim (bool_or (own p n)) [ inl e ↦ absurd (let some : Effect.Front old v ∷ Effect.Arrive ∷ displacements (own_of own xs) ≡ [] = sym (ap displacements (chosen_yes (passes own) (entry n p (Effect.Front old v)) xs e)) ∙ none in cc) | inr e ↦ e ]

  -- a call that does not displace keeps its effects
  other_named : (own : ℕ → ℕ → Bool) (n p : ℕ) (e : Effect T) (xs : List (Entry T)) → displacements (own_of own (entry n p e ∷ xs)) ≡ [] → (e ≡ Effect.Close → SeesNoMove own n xs)
      → (displacements (own_of own xs) ≡ [] → own_of own (settle xs) ≡ others (own_of own xs)) → own_of own (settle_first (entry n p e) e xs (settle xs)) ≡ others (own_of own (entry n p e ∷ xs))
  other_named own n p (Effect.Front old v) xs none still is =
      let x : Entry T = entry n p (Effect.Front old v) in
      let e = not_own own n p old v xs none in
      let here : displacements (own_of own xs) ≡ [] = sym (ap displacements (chosen_not (passes own) x xs e)) ∙ none in
      chosen_not (passes own) x (entry n p Effect.Arrive ∷ settle xs) e ∙ (chosen_not (passes own) (entry n p Effect.Arrive) (settle xs) e ∙ (is here ∙ ap others (sym (chosen_not (passes own) x xs e))))
  other_named own n p Effect.Arrive xs none still is = drops_part (passes own) (entry n p Effect.Arrive) xs (own_of own (settle xs)) (λ l. refl) (is (drops_other own (entry n p Effect.Arrive) xs (λ l. refl) ∙ none))
  other_named own n p Effect.Close xs none still is =
      let x : Entry T = entry n p Effect.Close in
      let here : displacements (own_of own xs) ≡ [] = drops_other own x xs (λ l. refl) ∙ none in
      chosen_append (passes own) (fronts_at n xs) (x ∷ other_entries xs) ∙ (λ i. (own_fronts own n xs (still refl) ∙ here) i ++ keeps_plain (passes own) x (other_entries xs) xs (λ l. refl) (chosen_others (passes own) xs) i)
  other_named own n p e xs none still is = keeps_plain (passes own) (entry n p e) (settle xs) xs (λ l. refl) (is (drops_other own (entry n p e) xs (λ l. refl) ∙ none))

  own_others : (own : ℕ → ℕ → Bool) (xs : List (Entry T)) → KeepsFronts own xs → displacements (own_of own xs) ≡ [] → own_of own (settle xs) ≡ others (own_of own xs)
  own_others own [] within none = refl
  own_others own (x ∷ xs) within none = other_named own x.event x.party x.effect xs none within.0 (own_others own xs within.1)

  -- a call that displaces does so whole, and does nothing else
  not_plain : (own : ℕ → ℕ → Bool) (x : Entry T) (xs : List (Entry T)) → ((l : List (Effect T)) → others (x.effect ∷ l) ≡ x.effect ∷ others l) → others (own_of own (x ∷ xs)) ≡ [] → passes own x ≡ false
  not_plain own x xs plain none =
      elim (bool_or (passes own x)) [ inl e ↦ absurd (let some : x.effect ∷ others (own_of own xs) ≡ [] = sym (ap others (chosen_yes (passes own) x xs e) ∙ plain (own_of own xs)) ∙ none in cc) | inr e ↦ e ]

  passed_by : (own : ℕ → ℕ → Bool) (x : Entry T) (xs : List (Entry T)) → ((l : List (Effect T)) → others (x.effect ∷ l) ≡ x.effect ∷ others l) → others (own_of own (x ∷ xs)) ≡ []
      → (others (own_of own xs) ≡ [] → own_of own (settle xs) ≡ displacements (own_of own xs)) → own_of own (x ∷ settle xs) ≡ displacements (own_of own (x ∷ xs))
  passed_by own x xs plain none is =
      let e = not_plain own x xs plain none in
      chosen_not (passes own) x (settle xs) e ∙ (is (sym (ap others (chosen_not (passes own) x xs e)) ∙ none) ∙ ap displacements (sym (chosen_not (passes own) x xs e)))

  front_named : (own : ℕ → ℕ → Bool) (n p : ℕ) (e : Effect T) (xs : List (Entry T)) → others (own_of own (entry n p e ∷ xs)) ≡ [] → (e ≡ Effect.Close → SeesNoMove own n xs)
      → (others (own_of own xs) ≡ [] → own_of own (settle xs) ≡ displacements (own_of own xs)) → own_of own (settle_first (entry n p e) e xs (settle xs)) ≡ displacements (own_of own (entry n p e ∷ xs))
  front_named own n p (Effect.Front old v) xs none still is =
      front_own own n n p old v (settle xs) xs refl (is (drops_part (passes own) (entry n p (Effect.Front old v)) xs (others (own_of own xs)) (λ l. refl) refl ∙ none))
  front_named own n p Effect.Arrive xs none still is =
      is (drops_part (passes own) (entry n p Effect.Arrive) xs (others (own_of own xs)) (λ l. refl) refl ∙ none) ∙ drops_other own (entry n p Effect.Arrive) xs (λ l. refl)
  front_named own n p Effect.Close xs none still is =
      let x : Entry T = entry n p Effect.Close in
      let rest : own_of own (x ∷ other_entries xs) ≡ [] = keeps_plain (passes own) x (other_entries xs) xs (λ l. refl) (chosen_others (passes own) xs) ∙ none in
      chosen_append (passes own) (fronts_at n xs) (x ∷ other_entries xs) ∙ ((λ i. own_fronts own n xs (still refl) i ++ rest i) ∙ (append-nil (displacements (own_of own xs)) ∙ drops_other own x xs (λ l. refl)))
  front_named own n p e xs none still is = passed_by own (entry n p e) xs (λ l. refl) none is

  own_displacements : (own : ℕ → ℕ → Bool) (xs : List (Entry T)) → KeepsFronts own xs → others (own_of own xs) ≡ [] → own_of own (settle xs) ≡ displacements (own_of own xs)
  own_displacements own [] within none = refl
  own_displacements own (x ∷ xs) within none = front_named own x.event x.party x.effect xs none within.0 (own_displacements own xs within.1)

  abbrev pub first_or : Effect T → List (Effect T) → Effect T
  first_or d [] = d
  first_or d (x ∷ xs) = x

  -- what a reply stands for is nothing, one effect that is no part of a displacement, or a front and its arrive
  abbrev pub IsFew : List (Effect T) → Type 0
  IsFew es = (es ≡ []) ⊎ ((e : Effect T) × (es ≡ e ∷ []) × (displacements (e ∷ []) ≡ []) × (others (e ∷ []) ≡ e ∷ [])) ⊎ ((old v : T) × (es ≡ Effect.Front old v ∷ Effect.Arrive ∷ []))

  few_of : {c : Call T} {r : Reply T} {es : List (Effect T)} → TellsAs c r es → IsFew es
  few_of nothing = inl refl
  few_of (append v) = inr (inl (Effect.Append v, refl, refl, refl))
  few_of (take x asked told) = inr (inl (Effect.Take x, refl, refl, refl))
  few_of (replace old v asked told) = inr (inl (Effect.Replace old v, refl, refl, refl))
  few_of (displace old v asked told) = inr (inr (old, v, refl))
  few_of (close asked told) = inr (inl (Effect.Close, refl, refl, refl))
  few_of self_close = inr (inl (Effect.SelfClose, refl, refl, refl))

  pub is_few : (c : Call T) (r : Reply T) (es : List (Effect T)) → Tells c r es → IsFew es
  is_few c r es t = few_of (tells_as c r es t)

  pub tail_of : (xs ys : List (Effect T)) (x y : Effect T) → x ∷ xs ≡ y ∷ ys → xs ≡ ys
  tail_of xs ys x y is = ap rest is

  pub head_of : (xs ys : List (Effect T)) (x y : Effect T) → x ∷ xs ≡ y ∷ ys → x ≡ y
  head_of xs ys x y is = ap (first_or x) is

  -- the beginning E of a call's effects is none of them, all of them, or a front without its arrive
  abbrev Part : List (Effect T) → List (Effect T) → Type 0
  Part es more = ((displacements es ≡ []) × (others es ≡ es)) ⊎ ((others es ≡ []) × (displacements es ≡ es ++ more))

  part_of : {c : Call T} {r : Reply T} (es more : List (Effect T)) → TellsAs c r (es ++ more) → Part es more
  part_of (x ∷ []) more (displace old v asked told) = inr (refl, refl)
  part_of (x ∷ y ∷ []) more (displace old v asked told) = inr (refl, refl)
  part_of (x ∷ y ∷ z ∷ es) more t = elim t [ ]
  part_of es more t = inl (refl, refl)

  pub own_begun : (own : ℕ → ℕ → Bool) (H : List (Entry T)) (c : Call T) (r : Reply T) (more : List (Effect T)) → KeepsFronts own H → Tells c r (own_of own H ++ more)
      → (rest : List (Effect T)) × Tells c r (own_of own (settle H) ++ rest)
  own_begun own H c r more within t =
      elim (part_of (own_of own H) more (tells_as c r (own_of own H ++ more) t)) [
        | inl part ↦ (more, subst (λ (l : List (Effect T)). Tells c r (l ++ more)) (sym (own_others own H within part.0 ∙ part.1)) t)
        | inr part ↦ ([], subst (Tells c r) (sym (append-nil (own_of own (settle H)) ∙ (own_displacements own H within part.0 ∙ part.1))) t)
      ]

  pub own_same : (own : ℕ → ℕ → Bool) (H : List (Entry T)) (c : Call T) (r : Reply T) → KeepsFronts own H → Tells c r (own_of own H) → own_of own (settle H) ≡ own_of own H
  own_same own H c r within t =
      elim (part_of (own_of own H) [] (tells_as c r (own_of own H ++ []) (subst (Tells c r) (sym (append-nil (own_of own H))) t))) [
        | inl part ↦ own_others own H within part.0 ∙ part.1
        | inr part ↦ own_displacements own H within part.0 ∙ (part.1 ∙ append-nil (own_of own H))
      ]
