-- A front leaves a ring only by a call that has seen the queue open.
use Rattle.std.proofs.Common.{ℕ, ◌+◌, ◌≡◌, ◌==◌, Bool, true, false, Option, None, sym, subst}
use Rattle.queue_steps.specs.{Words.position_of, Words.is_shut, declared.steps.ring.RingLocal.RingLocal as ring}
use Rattle.queue_laws.specs.Common.{Vocabulary.Effect, Vocabulary.Answer, Vocabulary.Local, Effects.MayFront, Effects.Whether}
use Rattle.queue_laws.proofs.Ring.RingStepOk.{IsEffect}

module _ {T : Type 0} where
  none_fronts : (was : Bool) (e : Option (Effect T)) → e ≡ None → MayFront e was
  none_fronts was e is = subst (λ x. MayFront x was) (sym is) tt

  fronts : (was : Bool) (e : Option (Effect T)) (b : Bool) (P Q : Type 0) → Whether b P Q → (P → MayFront e was) → (Q → MayFront e was) → MayFront e was
  fronts was e true P Q h here there = here h
  fronts was e false P Q h here there = there h

  pub may_front : (cap : ℕ) (was : Bool) (l : Local ℕ) (a : Answer ℕ) (e : Option (Effect T)) → IsEffect cap was l a e → MayFront e was
  may_front cap was (Local.Ring (ring.Claiming d tail)) (Answer.Found found) e h =
      fronts was e (found == tail) _ _ h (λ w. subst (λ x. MayFront x was) (sym w.1) tt) (none_fronts was e)
  may_front cap was (Local.Ring (ring.Displacing tail)) (Answer.Found found) e h =
      fronts was e (found + cap == position_of tail) _ _ h (λ w. subst (λ x. MayFront x was) (sym w.1) w.2) (none_fronts was e)
  may_front cap was (Local.Ring (ring.Arriving tail)) (Answer.Found found) e h = subst (λ x. MayFront x was) (sym h) tt
  may_front cap was (Local.Ring (ring.ClosingAtLimit d)) (Answer.Found found) e h =
      fronts was e (is_shut found) _ _ h (none_fronts was e) (λ is. subst (λ x. MayFront x was) (sym is) tt)
  may_front cap was (Local.Ring (ring.Taking head)) (Answer.Found found) e h =
      fronts was e (found == head) _ _ h (λ w. subst (λ x. MayFront x was) (sym w.1) tt) (none_fronts was e)
  may_front cap was (Local.Ring ring.Closing) (Answer.Found found) e h =
      fronts was e (is_shut found) _ _ h (none_fronts was e) (λ is. subst (λ x. MayFront x was) (sym is) tt)
  may_front cap was (Local.Ring l) a e h = none_fronts was e h
  may_front cap was _ a e h = absurd h
