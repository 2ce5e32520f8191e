-- What is closed stays closed, and once it is empty too nothing happens any more.
use Rattle.std.proofs.Common.{◌≡◌, ℕ, ◌+◌, Bool, cond, List, [], ◌∷◌, ◌++◌, length, Option, refl, ap, sym, subst, ◌∙◌, arith, append-nil}
use mathlib.Core.List.{IsPrefix}
use Rattle.queue_laws.specs.{Common.Vocabulary.Effect, History.Histories.closings, History.Histories.ClosesOnce, History.Histories.IsDrained, History.Histories.EndsOnceDrained, History.Histories.EndsForParties}
use Rattle.queue_steps.specs.{State.State, State.start, Effect.Fits, Effect.made, Effect.Runs, Effect.IsHistory, Effect.after_from, Effect.after, Replies.Tells, Parties.StandAt}
use Rattle.queue_steps.proofs.Places.{below_at}
use Rattle.queue_laws.proofs.Common.Runs.{runs_rest, history_before}

module _ {T : Type 0} where
  closes_from : (Q : State T) (es : List (Effect T)) → Runs Q es → closings es + cond Q.closed 1 0 ≡ cond (after_from Q es).closed 1 0
  closes_from Q [] r = omega arith
  closes_from Q (Effect.Close ∷ es) r =
      let none : cond Q.closed 1 0 ≡ 0 = ap {B = ℕ} (λ (b : Bool). cond {A = ℕ} b 1 0) r.0 in
      let rest = closes_from (made Effect.Close Q) es r.1 in omega (arith, none, rest)
  closes_from Q (Effect.SelfClose ∷ es) r =
      let none : cond Q.closed 1 0 ≡ 0 = ap {B = ℕ} (λ (b : Bool). cond {A = ℕ} b 1 0) r.0.0 in
      let rest = closes_from (made Effect.SelfClose Q) es r.1 in omega (arith, none, rest)
  closes_from Q (x ∷ es) r = closes_from (made x Q) es r.1

  -- no effect fits a closed queue without items
  none_fits : (Q : State T) (e : Effect T) → IsDrained Q → Fits e Q → ⊥
  none_fits Q (Effect.Take v) d f = let some = f.1 in let none = d.0 in cc
  none_fits Q (Effect.Replace old v) d f = let no = f.1 in let yes = d.2 in cc
  none_fits Q (Effect.Front old v) d f = let some = f.4.1 in let none = d.0 in cc
  none_fits Q Effect.Arrive d f = let some = f.1 in let none = d.1 in cc
  none_fits Q Effect.Close d f = let yes = d.2 in cc
  none_fits Q e d f = let no = f.0 in let yes = d.2 in cc

  ends : (Q : State T) (es : List (Effect T)) → IsDrained Q → Runs Q es → es ≡ []
  ends Q [] d r = refl
  ends Q (e ∷ es) d r = absurd (none_fits Q e d r.0)

  -- a longer history is the same
  pub ends_at : (cap : Option ℕ) (h t : List (Effect T)) → IsDrained (after cap h) → IsPrefix h t → IsHistory cap t → t ≡ h
  ends_at cap h t d (es, is) legal =
      let none : es ≡ [] = ends (after cap h) es d (runs_rest (start cap 0) h es (subst (IsHistory cap) (sym is) legal)) in
      sym is ∙ (ap (λ (l : List (Effect T)). h ++ l) none ∙ append-nil h)

  -- in a history of n effects none stands at a place from n on
  no_effects : (t : List (Effect T)) (n : ℕ) (ps : List ℕ) (es : List (Effect T)) → StandAt t n ps es → length t ≡ n → es ≡ []
  no_effects t n [] [] s is = refl
  no_effects t n (p ∷ ps) (e ∷ es) s is = absurd (let le = s.0 in let lt = below_at t p e s.1 in omega arith)
  no_effects t n ps es s is = absurd s

pub closes_once : {T : Type 0} → ClosesOnce T
closes_once cap es r = let all = closes_from (start cap 0) es r in omega (arith, all)

pub ends_once_drained : {T : Type 0} → EndsOnceDrained T
ends_once_drained Q es d r = ends Q es d r

pub ends_for_parties : {T : Type 0} → EndsForParties T
ends_for_parties {T} cap h v w c r drained begins s =
    let seen : v.seen ≡ h = ends_at cap h v.seen drained begins (history_before cap v.seen w.seen s.begins s.legal) in
    let after_it : w.seen ≡ h = ends_at cap h w.seen drained (subst (λ (l : List (Effect T)). IsPrefix l w.seen) seen s.begins) s.legal in
    let none : s.effects ≡ [] = no_effects w.seen (length v.seen) s.places s.effects s.stand (ap length (after_it ∙ sym seen)) in
    (after_it, subst (Tells c r) none s.tells)
