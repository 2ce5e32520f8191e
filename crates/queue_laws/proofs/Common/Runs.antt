-- Runs of effects in parts, and what none of them changes.
use Rattle.std.proofs.Common.{◌≡◌, ℕ, List, [], ◌∷◌, ◌++◌, Option, refl, sym, subst, ◌∙◌}
use mathlib.Core.List.{IsPrefix}
use Rattle.queue_steps.specs.{State.State, State.start, Effect.Fits, Effect.made, Effect.Runs, Effect.after_from, Effect.after, Effect.IsHistory}
use Rattle.queue_laws.specs.Common.Vocabulary.{Effect}

module _ {T : Type 0} where
  -- a run goes on from where its beginning ends
  pub runs_rest : (Q : State T) (s d : List (Effect T)) → Runs Q (s ++ d) → Runs (after_from Q s) d
  runs_rest Q [] d r = r
  runs_rest Q (e ∷ s) d r = runs_rest (made e Q) s d r.1

  pub after_rest : (Q : State T) (s d : List (Effect T)) → after_from Q (s ++ d) ≡ after_from (after_from Q s) d
  after_rest Q [] d = refl
  after_rest Q (e ∷ s) d = after_rest (made e Q) s d

  -- a beginning of a run is one
  pub runs_before : (Q : State T) (s d : List (Effect T)) → Runs Q (s ++ d) → Runs Q s
  runs_before Q [] d r = tt
  runs_before Q (e ∷ s) d r = (r.0, runs_before (made e Q) s d r.1)

  pub history_before : (cap : Option ℕ) (s t : List (Effect T)) → IsPrefix s t → IsHistory cap t → IsHistory cap s
  history_before cap s t (d, is) legal = runs_before (start cap 0) s d (subst (IsHistory cap) (sym is) legal)

  -- one effect more
  pub after_snoc : (Q : State T) (h : List (Effect T)) (e : Effect T) → after_from Q (h ++ e ∷ []) ≡ made e (after_from Q h)
  after_snoc Q [] e = refl
  after_snoc Q (x ∷ h) e = after_snoc (made x Q) h e

  pub runs_snoc : (Q : State T) (h : List (Effect T)) (e : Effect T) → Runs Q h → Fits e (after_from Q h) → Runs Q (h ++ e ∷ [])
  runs_snoc Q [] e r fits = (fits, tt)
  runs_snoc Q (x ∷ h) e r fits = (r.0, runs_snoc (made x Q) h e r.1 fits)

  -- no effect changes the capacity
  pub cap_made : (e : Effect T) (Q : State T) → (made e Q).cap ≡ Q.cap
  cap_made (Effect.Append v) Q = refl
  cap_made e Q = refl

  pub cap_after_from : (Q : State T) (es : List (Effect T)) → (after_from Q es).cap ≡ Q.cap
  cap_after_from Q [] = refl
  cap_after_from Q (e ∷ es) = cap_after_from (made e Q) es ∙ cap_made e Q

  pub cap_after : (cap : Option ℕ) (es : List (Effect T)) → (after cap es).cap ≡ cap
  cap_after cap es = cap_after_from (start cap 0) es
