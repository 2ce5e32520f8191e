-- A call of the only party that is in one: all that happened since it began is its own.
use Rattle.std.proofs.Common.{◌≡◌, ◌||◌, not, ◌∙◌, inl, inr, Bool, true, false, Option, Some, None, List, [], ◌∷◌, ◌++◌, refl, sym, ap, subst}
use Rattle.queue_steps.specs.{State.State, Effect.Fits, Effect.made, Effect.Runs, Effect.after_from}
use Rattle.queue_laws.specs.Common.{Vocabulary.Effect, Effects.Leads, Effects.MayFront, Effects.FrontOpen, Effects.with_effect, Moments.SeenIn}
use Rattle.queue_laws.proofs.Common.{Runs.after_snoc, Runs.runs_snoc, Tests.or_true, Tests.not_true}

module _ {T : Type 0} where
  -- each moment is this one
  abbrev pub Only : State T → List (State T) → Type 0
  Only Q [] = Unit {0}
  Only Q (m ∷ ms) = (m ≡ Q) × Only Q ms

  pub only_seen : (Q : State T) (ms : List (State T)) (P : State T → Type 0) → Only Q ms → SeenIn ms P → P Q
  only_seen Q [] P only seen = absurd seen
  only_seen Q (m ∷ ms) P only (inl p) = subst P only.0 p
  only_seen Q (m ∷ ms) P only (inr s) = only_seen Q ms P only.1 s

  not_empty : (es : List (Effect T)) (e : Effect T) → es ++ e ∷ [] ≡ [] → ⊥
  not_empty [] e is = cc
  not_empty (x ∷ es) e is = cc

  -- the call began at the state P, its effects lead to Q, and it has seen these moments
  pub record Alone (P Q : State T) (ms : List (State T)) (was : Bool) (es : List (Effect T)) : Type 0 where
    pub runs : Runs P es
    pub leads : after_from P es ≡ Q
    pub only : es ≡ [] → Only P ms
    pub seen : es ≡ [] → was ≡ true → P.closed ≡ false
    pub first : FrontOpen P es

  pub alone_first : (P : State T) → Alone P P [] false []
  alone_first P = record { runs = tt; leads = refl; only = λ e. tt; seen = λ e o. cc; first = tt }

  front_more : (P : State T) (es : List (Effect T)) (e : Effect T) (was : Bool) → FrontOpen P es → MayFront (Some e) was → (es ≡ [] → was ≡ true → P.closed ≡ false) → FrontOpen P (es ++ e ∷ [])
  front_more P [] (Effect.Front old v) was first may seen = seen refl may
  front_more P (Effect.Front old v ∷ es) e was first may seen = first
  front_more P es e was first may seen = tt

  -- after its own step
  pub alone_more : (P Q R : State T) (ms : List (State T)) (was : Bool) (es : List (Effect T)) (e : Option (Effect T)) → Alone P Q ms was es → Leads Q e R → MayFront e was → Alone P R (R ∷ ms) (was || not R.closed) (with_effect es e)
  alone_more P Q R ms was es None h leads may =
      let lead : after_from P es ≡ R = h.leads ∙ sym leads in
      record {
        runs = h.runs;
        leads = lead;
        only = λ none. (sym lead ∙ ap (after_from P) none, h.only none);
        seen = λ none o.
            let here : R ≡ P = sym lead ∙ ap (after_from P) none in
            elim (or_true was (not R.closed) o) [ inl e ↦ h.seen none e | inr e ↦ ap (λ q. q.closed) (sym here) ∙ not_true R.closed e ];
        first = h.first;
      }
  alone_more P Q R ms was es (Some e) h leads may =
      record {
        runs = runs_snoc P es e h.runs (subst (λ q. Fits e q) (sym h.leads) leads.0);
        leads = after_snoc P es e ∙ (ap (λ q. made e q) h.leads ∙ sym leads.1);
        only = λ none. absurd (not_empty es e none);
        seen = λ none o. absurd (not_empty es e none);
        first = front_more P es e was h.first may h.seen;
      }
