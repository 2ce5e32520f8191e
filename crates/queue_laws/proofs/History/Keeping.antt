-- Where the items of a history are.
use Rattle.std.proofs.Common.{◌≡◌, ◌+◌, true, List, [], ◌∷◌, ◌++◌, length, Option, Some, None, refl, ap, sym, ◌∙◌, arith, append_assoc, append-nil, length-append}
use Rattle.queue_laws.specs.{Common.Vocabulary.Effect, History.Histories.handed_in, History.Histories.handed_out, History.Histories.KeepsAll, History.Histories.KeepsOrder}
use Rattle.queue_steps.specs.{State.State, State.start, State.is_slot_cap, Effect.Fits, Effect.made, Effect.rest, Effect.with_coming, Effect.Runs, Effect.after_from, Effect.after}

module _ {T : Type 0} where
  -- the list, and behind it the item on its way in
  abbrev all_of : State T → List T
  all_of Q = with_coming Q.items Q.coming

  -- nothing is ever on its way into a queue of one slot
  abbrev Calm : State T → Type 0
  Calm Q = is_slot_cap Q.cap ≡ true → Q.coming ≡ None

  calm_on : (e : Effect T) (Q : State T) → Fits e Q → Calm Q → Calm (made e Q)
  calm_on (Effect.Front old v) Q f calm = λ single. let no = f.0 in absurd (cc)
  calm_on Effect.Arrive Q f calm = λ single. refl
  calm_on e Q f calm = calm

  -- the front stands before the rest, and before the item on its way in
  front_first : (xs others : List T) (v : T) (o : Option T) → xs ≡ v ∷ others → with_coming xs o ≡ v ∷ with_coming (rest xs) o
  front_first xs others v None is = rw is refl
  front_first xs others v (Some w) is = rw is refl

  only_items : (xs : List T) (o : Option T) → o ≡ None → with_coming xs o ≡ xs
  only_items xs o is = ap (with_coming xs) is

  front_counts : (xs others : List T) (v : T) → xs ≡ v ∷ others → length xs ≡ length (rest xs) + 1
  front_counts xs others v is = rw is (omega arith)

  coming_counts : (xs : List T) (v : T) (o : Option T) → o ≡ Some v → length (with_coming xs o) ≡ length xs + 1
  coming_counts xs v o is = ap (λ (p : Option T). length (with_coming xs p)) is ∙ length-append xs (v ∷ [])

  keeps_from : (Q : State T) (es : List (Effect T)) → Calm Q → Runs Q es → all_of Q ++ handed_in es ≡ handed_out es ++ all_of (after_from Q es)
  keeps_from Q [] calm r = append-nil (all_of Q)
  keeps_from Q (Effect.Append v ∷ es) calm r =
      let none = r.0.1 in let next = keeps_from (made (Effect.Append v) Q) es calm r.1 in
      ap (λ (l : List T). l ++ v ∷ handed_in es) (only_items Q.items Q.coming none)
      ∙ (sym (append_assoc Q.items (v ∷ []) (handed_in es)) ∙ (ap (λ (l : List T). l ++ handed_in es) (sym (only_items (Q.items ++ v ∷ []) Q.coming none)) ∙ next))
  keeps_from Q (Effect.Take v ∷ es) calm r =
      let next = keeps_from (made (Effect.Take v) Q) es calm r.1 in
      ap (λ (l : List T). l ++ handed_in es) (front_first Q.items r.0.0 v Q.coming r.0.1) ∙ ap (λ (l : List T). v ∷ l) next
  keeps_from Q (Effect.Replace old v ∷ es) calm r =
      let none : Q.coming ≡ None = calm (ap is_slot_cap r.0.0) in let next = keeps_from (made (Effect.Replace old v) Q) es calm r.1 in
      ap (λ (l : List T). l ++ v ∷ handed_in es) (only_items Q.items Q.coming none ∙ r.0.2)
      ∙ ap (λ (l : List T). old ∷ l) (ap (λ (l : List T). l ++ handed_in es) (sym (only_items (v ∷ []) Q.coming none)) ∙ next)
  keeps_from Q (Effect.Front old v ∷ es) calm r =
      let none = r.0.2 in let next = keeps_from (made (Effect.Front old v) Q) es (calm_on (Effect.Front old v) Q r.0 calm) r.1 in
      ap (λ (l : List T). l ++ v ∷ handed_in es) (front_first Q.items r.0.4.0 old Q.coming r.0.4.1)
      ∙ ap (λ (l : List T). old ∷ l) (ap (λ (l : List T). l ++ v ∷ handed_in es) (only_items (rest Q.items) Q.coming none) ∙ (sym (append_assoc (rest Q.items) (v ∷ []) (handed_in es)) ∙ next))
  keeps_from Q (Effect.Arrive ∷ es) calm r = keeps_from (made Effect.Arrive Q) es (λ single. refl) r.1
  keeps_from Q (x ∷ es) calm r = keeps_from (made x Q) es calm r.1

  counts_from : (Q : State T) (es : List (Effect T)) → Runs Q es
      → (after_from Q es).accepted + length Q.items ≡ Q.accepted + (length (handed_out es) + length (after_from Q es).items)
  counts_from Q [] r = omega arith
  counts_from Q (Effect.Append v ∷ es) r = let next = counts_from (made (Effect.Append v) Q) es r.1 in let more = length-append Q.items (v ∷ []) in omega (arith, next, more)
  counts_from Q (Effect.Take v ∷ es) r = let next = counts_from (made (Effect.Take v) Q) es r.1 in let one = front_counts Q.items r.0.0 v r.0.1 in omega (arith, next, one)
  counts_from Q (Effect.Replace old v ∷ es) r =
      let next = counts_from (made (Effect.Replace old v) Q) es r.1 in let one = front_counts Q.items [] old r.0.2 in let none : length (rest Q.items) ≡ 0 = ap (λ (l : List T). length (rest l)) r.0.2 in
      omega (arith, next, one, none)
  counts_from Q (Effect.Front old v ∷ es) r = let next = counts_from (made (Effect.Front old v) Q) es r.1 in let one = front_counts Q.items r.0.4.0 old r.0.4.1 in omega (arith, next, one)
  counts_from Q (Effect.Arrive ∷ es) r = let next = counts_from (made Effect.Arrive Q) es r.1 in let one = coming_counts Q.items r.0.0 Q.coming r.0.1 in omega (arith, next, one)
  counts_from Q (x ∷ es) r = counts_from (made x Q) es r.1

pub keeps_all : {T : Type 0} → KeepsAll T
keeps_all cap es r =
    let Q = after cap es in
    let all = length-append (handed_out es) Q.items in
    let counts = counts_from (start cap 0) es r in
    (keeps_from (start cap 0) es (λ single. refl) r, omega (arith, all, counts))

pub keeps_order : {T : Type 0} → KeepsOrder T
keeps_order cap es r = (with_coming (after cap es).items (after cap es).coming, sym (keeps_all cap es r).0)
