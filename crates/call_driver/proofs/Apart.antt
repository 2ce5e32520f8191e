-- A call and its reply, put together of their kind and their value.
use Rattle.std.specs.Prelude.{IsSome}
use Rattle.std.proofs.Common.{◌≡◌, Option, Some, refl, sym, ap, subst, ◌∙◌}
use Rattle.queue_steps.specs.{declared.model.Call.Call, declared.model.Reply.Reply, Kinds.call_kind, Kinds.call_value, Kinds.filled, Sequential.Owned, Sequential.Sequential}
use Rattle.call_driver.specs.Apart.{IsCall, AnswersApart}

-- the parts of a call
pub call-parts : {T : Type 0} (parts : Call Unit × Option T) (c : Call T) → parts ≡ (call_kind c, call_value c) → IsCall parts.0 parts.1 c
call-parts parts c is = (ap (λ p. p.0) is, ap (λ p. p.1) is)

module _ {T : Type 0} (P R : Owned T) (c : Call T) (r : Reply Unit) (y : Option T) where
  -- the kind of a reply and the value that the call ended with fit
  pub apart-fits : AnswersApart P c r y R → IsSome (filled r y)
  apart-fits told = rw told.1 refl

  -- the reply with its value is that of the call
  pub apart-filled : (reply : Reply T) → filled r y ≡ Some reply → AnswersApart P c r y R → Sequential P c reply R
  apart-filled reply fills told =
      let both : Some told.0 ≡ Some reply = sym told.1 ∙ fills in
      let same : told.0 ≡ reply = cc in
      subst (λ it. Sequential P c it R) same told.2
