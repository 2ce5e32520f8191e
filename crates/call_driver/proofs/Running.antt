-- How a run that ends begins, goes on, and ends.
use Rattle.std.proofs.Common.{◌≡◌, ℕ, suc, ◌+◌, ◌-◌, ◌<◌, Option, arith, sym, subst, ◌∙◌}
use Rattle.queue_steps.specs.{declared.model.Call.Call, declared.model.Reply.Reply, declared.sizes.TheConstants.STEPS_ALONE, Next.CanNext, Next.next_of, Next.first_local, Kinds.call_kind, Kinds.call_value, Sequential.Owned}
use Rattle.queue_steps.specs.declared.steps.types.{Kind.Kind, Answer.Answer, Answer.Answer as answer, Next.Next, Next.Next as next, Op.Op, Touch.Touch, Local.Local}
use Rattle.call_driver.specs.EndsIn.{EndsIn, EndsRight, Answered}

module _ {T B M : Type 0} (can_touch : M → Touch → Op B → Type 0) (touches : M → Touch → Op B → Option T → M → Option T → Type 0)
    (can_perform : M → Op B → Type 0) (performs : M → Op B → Answer B → M → Type 0) where
  -- what a step of the run needs, and what is left after it
  pub EndsIn-step : (n : ℕ) (k : Kind) (from : Local B) (found : Answer B) {made : Next B} (l : Local B) (t : Touch) (o : Op B) (cells : M) (carried : Option T) (P : Reply Unit → Option B → Option T → M → Type 0)
      → n < STEPS_ALONE → made ≡ next_of k from found → made ≡ next.Step l t o → EndsIn can_touch touches can_perform performs (STEPS_ALONE - n) k (next_of k from found) cells carried P
      → can_touch cells t o
      × ((touched : M) (left : Option T) → touches cells t o carried touched left
      → can_perform touched o
      × ((a : Answer B) (done : M) → performs touched o a done → CanNext k l a × EndsIn can_touch touches can_perform performs (STEPS_ALONE - (n + 1)) k (next_of k l a) done left P))
  EndsIn-step n k from found l t o cells carried P below made is h =
      let e : STEPS_ALONE - n ≡ suc (STEPS_ALONE - (n + 1)) = omega arith in
      rw (sym made ∙ is, e) at h

  -- a run that has its reply has ended
  pub EndsIn-reply : (n : ℕ) (k : Kind) (from : Local B) (found : Answer B) {made : Next B} (r : Reply Unit) (spare : Option B) (cells : M) (carried : Option T) (P : Reply Unit → Option B → Option T → M → Type 0)
      → n < STEPS_ALONE → made ≡ next_of k from found → made ≡ next.Reply r spare → EndsIn can_touch touches can_perform performs (STEPS_ALONE - n) k (next_of k from found) cells carried P → P r spare carried cells
  EndsIn-reply n k from found r spare cells carried P below made is h =
      let e : STEPS_ALONE - n ≡ suc (STEPS_ALONE - (n + 1)) = omega arith in
      rw (sym made ∙ is, e) at h

  -- where a run begins
  pub EndsIn-first : (can_release : M → B → Type 0) (releases : M → B → M → Type 0) (idle : M → Type 0) (owned : M → Owned T) (k kind : Kind) (c : Call T) (local : Local B) (parts : Call Unit × Option T) (cells : M)
      → k ≡ kind → parts ≡ (call_kind c, call_value c) → local ≡ first_local parts.0
      → EndsRight can_touch touches can_perform performs can_release releases idle owned kind c cells
      → CanNext k local answer.Start
      × EndsIn can_touch touches can_perform performs STEPS_ALONE k (next_of k local answer.Start) cells parts.1 (Answered can_release releases idle owned c cells)
  EndsIn-first can_release releases idle owned k kind c local parts cells is_kind is_parts is_local h =
      let P : Reply Unit → Option B → Option T → M → Type 0 = Answered can_release releases idle owned c cells in
      let Whole : Kind → Local B → Option T → Type 0 = λ x y z. CanNext x y answer.Start × EndsIn can_touch touches can_perform performs STEPS_ALONE x (next_of x y answer.Start) cells z P in
      let OfKind : Kind → Type 0 = λ x. Whole x (first_local (call_kind c)) (call_value c) in
      let OfParts : Call Unit × Option T → Type 0 = λ x. Whole k (first_local x.0) x.1 in
      let OfLocal : Local B → Type 0 = λ x. Whole k x parts.1 in
      subst OfLocal (sym is_local) (subst OfParts (sym is_parts) (subst OfKind (sym is_kind) h))
