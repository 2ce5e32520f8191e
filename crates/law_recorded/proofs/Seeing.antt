-- What an order of the calls had before those moves that see the queue as a step left it.
use Rattle.std.proofs.Common.{◌≡◌, ◌∙◌, ◌⊎◌, inl, inr, ℕ, suc, zero, ◌<◌, ◌≤◌, Bool, Option, Some, None, List, [], ◌∷◌, refl, sym, ap, subst, arith}
use Rattle.std.proofs.lemmas.Bool.{cases_eq}
use Rattle.std.proofs.lemmas.Option.{slice_get_within}
use Rattle.std.specs.Prelude.{slice_get, slice_set, Any}
use Rattle.queue_steps.specs.State.{State}
use Rattle.queue_steps.specs.Replies.{Allows, Tells}
use Rattle.machine_replay.specs.Vocabulary.{Call, Reply, Effect}
use Rattle.machine_replay.specs.Book.{Open}
use Rattle.history_check.specs.declared.recorded.Event.{Event}
use Rattle.history_check.specs.declared.recorded.Move.TheVariants as move
use Rattle.history_check.specs.declared.recorded.Way.{Way}
use Rattle.history_check.specs.declared.recorded.Way.TheVariants.{Waiting, Halfway, Answered}
use Rattle.history_check.specs.Legal.{Makes}
use Rattle.history_check.proofs.Moves.{set_here}
use Rattle.law_recorded.proofs.Places.{set_back, any_cases}
use Rattle.law_recorded.proofs.Plays.{stage, IsWay, IsSoFar, SoFar, Play, earlier, known, at_party}

-- the call o has gone on to o', with the same effects, and has at most Q as a moment more
pub record Sees (Q : State ℕ) (o o' : Open ℕ) : Type 0 where
  pub call : o'.call ≡ o.call
  pub effects : o'.effects ≡ o.effects
  pub moments : (o'.moments ≡ o.moments) ⊎ (o'.moments ≡ Q ∷ o.moments)

abbrev pub SeesIf : State ℕ → Option (Open ℕ) → Option (Open ℕ) → Type 0
SeesIf Q None None = Unit {0}
SeesIf Q (Some o) (Some o') = Sees Q o o'
SeesIf Q None (Some o') = ⊥
SeesIf Q (Some o) None = ⊥

-- how far a call was that is now so far: as far, or it waited, and Q allows the reply that it has now
abbrev Saw : State ℕ → Bool → Option (Open ℕ) → Option Way → Type 0
Saw Q flag x w = IsSoFar flag x w ⊎ ((c : Call ℕ) × (r : Reply ℕ) × (w ≡ Some (Answered r)) × Allows c r Q × IsSoFar flag x (Some (Waiting c flag)))

no_effect : (Q : State ℕ) (flag : Bool) (o : Open ℕ) (r : Reply ℕ) → Tells o.call r o.effects → o.effects ≡ [] → Allows o.call r Q ⊎ Any (Allows o.call r) o.moments → Saw Q flag (Some o) (Some (Answered r))
no_effect Q flag o r tells none (inl now) = inr (o.call, r, refl, now, (refl, refl, none))
no_effect Q flag o r tells none (inr before) = inl (tells, λ e. before)

has_one : (es : List (Effect ℕ)) → (es ≡ []) ⊎ (es ≡ [] → ⊥)
has_one [] = inl refl
has_one (e ∷ es) = inr (λ no. cc)

split_moments : (Q : State ℕ) (c : Call ℕ) (r : Reply ℕ) (ms ms' : List (State ℕ)) → (ms' ≡ ms) ⊎ (ms' ≡ Q ∷ ms) → Any (Allows c r) ms' → Allows c r Q ⊎ Any (Allows c r) ms
split_moments Q c r ms ms' (inl same) any = inr (subst (Any (Allows c r)) same any)
split_moments Q c r ms ms' (inr more) any = any_cases (Allows c r) Q ms (subst (Any (Allows c r)) more any)

saw : (Q : State ℕ) (flag : Bool) (o o' : Open ℕ) (way : Way) → Sees Q o o' → IsWay flag o' way → Saw Q flag (Some o) (Some way)
saw Q flag o o' (Waiting c b) s (call, flagged, none) = inl (call ∙ s.call, flagged, sym s.effects ∙ none)
saw Q flag o o' (Halfway r) s (old, v, front, tells) = inl (old, v, sym s.effects ∙ front, subst (λ c. Tells c r (Effect.Front old v ∷ Effect.Arrive ∷ [])) s.call tells)
saw Q flag o o' (Answered r) s (tells, right) =
    let told : Tells o.call r o.effects = subst (λ c. Tells c r o.effects) s.call (subst (Tells o'.call r) s.effects tells) in
    elim (has_one o.effects) [
      | inl none ↦ no_effect Q flag o r told none (split_moments Q o.call r o.moments o'.moments s.moments (subst (λ c. Any (Allows c r) o'.moments) s.call (right (s.effects ∙ none))))
      | inr some ↦ inl (told, λ none. absurd (some none))
    ]

saw_if : (Q : State ℕ) (flag : Bool) (x x' : Option (Open ℕ)) (w : Option Way) → SeesIf Q x x' → IsSoFar flag x' w → Saw Q flag x w
saw_if Q flag None None None s far = inl tt
saw_if Q flag (Some o) (Some o') (Some way) s far = saw Q flag o o' way s far
saw_if Q flag None None (Some way) s far = absurd far
saw_if Q flag None (Some o') w s far = absurd s
saw_if Q flag (Some o) None w s far = absurd s
saw_if Q flag (Some o) (Some o') None s far = absurd far

-- each call has gone on, from what the one function has to what the other has. The first n parties are where they were
abbrev Partly : (ℕ → Bool) → (ℕ → Option (Open ℕ)) → (ℕ → Option (Open ℕ)) → ℕ → ℕ → Option Way → Type 0
Partly flags calls calls' n p w = (p < n → IsSoFar (flags p) (calls p) w) × (n ≤ p → IsSoFar (flags p) (calls' p) w)

-- before the calls that saw the queue at Q there was no move but theirs
module _ {parties : ℕ} {Q : State ℕ} {es : List Event} (flags : ℕ → Bool) (calls calls' : ℕ → Option (Open ℕ)) (sees : (p : ℕ) → SeesIf Q (calls p) (calls' p)) where
  unseen_one : (n : ℕ) → n < parties → Play parties Q (Partly flags calls calls' n) es → Play parties Q (Partly flags calls calls' (suc n)) es
  unseen_one n lt play =
      let here = at_party play n lt in
      elim (saw_if Q (flags n) (calls n) (calls' n) here.0 (sees n) (here.2.1 (omega arith))) [
        | inl as_far ↦ known play (Partly flags calls calls' (suc n)) (λ q v at may. elim (cases_eq q n) [
          | inl same ↦
              let there : slice_get play.ways n ≡ Some v = subst (λ k. slice_get play.ways k ≡ Some v) same at in
              let that : here.0 ≡ v = let mine = here.1 in cc in
              (λ lt. subst (λ k. IsSoFar (flags k) (calls k) v) (sym same) (subst (IsSoFar (flags n) (calls n)) that as_far), λ le. absurd (omega arith))
          | inr ne ↦ (λ lt. may.0 (omega arith), λ le. may.1 (omega arith))
        ])
        | inr (c, r, is, allows, waits) ↦
            let w : Option Way = Some (Waiting c (flags n)) in
            let before : List (Option Way) = slice_set play.ways n w in
            let makes : Makes (stage Q before) (move.See n r) (stage Q play.ways) =
            (c, flags n, set_here play.ways n here.0 w here.1, allows, ap (stage Q) (sym (set_back play.ways n (Some (Answered r)) w (here.1 ∙ ap Some is)))) in
            earlier play n here.0 w here.1 Q (Partly flags calls calls' (suc n)) es (move.See n r ∷ play.moves)
            (λ lt. waits, λ le. absurd (omega arith))
            (λ q v ne may. (λ lt. may.0 (omega arith), λ le. may.1 (omega arith)))
            (stage Q play.ways, es, (makes, refl), play.goes)
      ]

  unseen_few : (n : ℕ) → n ≤ parties → Play parties Q (SoFar flags calls') es → Play parties Q (Partly flags calls calls' n) es
  unseen_few zero le play = known play (Partly flags calls calls' zero) (λ q v at may. (λ lt. absurd (omega arith), λ le. may))
  unseen_few (suc n) le play = unseen_one n (omega arith) (unseen_few n (omega arith) play)

  pub unseen : Play parties Q (SoFar flags calls') es → Play parties Q (SoFar flags calls) es
  unseen play =
      let first = unseen_few parties (omega arith) play in
      known first (SoFar flags calls) (λ q v at may. may.0 (let lt = slice_get_within first.ways q v at in let many = first.many in omega (arith, lt, many)))
