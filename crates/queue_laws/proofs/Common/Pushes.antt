-- What the two calls that push answer, and that neither is wait-free.
use Rattle.std.proofs.Common.{◌≡◌, inl, inr, true, false, Some, None, Ok, Err, [], ◌∷◌, refl}
use Rattle.queue_steps.specs.{State.State, Kinds.filled, WaitFree.is_wait_free, Replies.Tells, Replies.IsRightAt, RingNext.closed_reply, RingNext.pushed_reply}
use Rattle.queue_laws.specs.Common.{Vocabulary.Reply, Vocabulary.Effect, Vocabulary.PushError, Vocabulary.ForcePushError, Vocabulary.PushKind, Pushes.pushes}

-- what a push answers that found the queue closed, or closed it
pub closed_push : {A : Type 0} (d : PushKind) (v : A)
    → (y : Reply A) × (filled (closed_reply d) (Some v) ≡ Some y) × Tells (pushes d v) y [] × Tells (pushes d v) y (Effect.SelfClose ∷ []) × ((m : State A) → m.closed ≡ true → IsRightAt m (pushes d v) y)
closed_push PushKind.Push v = (Reply.Push (Err (PushError.Closed v)), refl, (refl, inr refl), (refl, inl refl), λ m e. (refl, e))
closed_push PushKind.Force v = (Reply.ForcePush (Err (ForcePushError.Closed v)), refl, (refl, inr refl), (refl, inl refl), λ m e. (refl, e))

-- what a push answers whose item was appended
pub appended_push : {A : Type 0} (d : PushKind) (v : A) → (y : Reply A) × (filled (pushed_reply d) None ≡ Some y) × Tells (pushes d v) y (Effect.Append v ∷ [])
appended_push PushKind.Push v = (Reply.Push (Ok tt), refl, refl)
appended_push PushKind.Force v = (Reply.ForcePush (Ok None), refl, refl)

-- no push is wait-free
pub not_wait_free : {A : Type 0} (d : PushKind) (v : A) → is_wait_free (pushes d v) ≡ false
not_wait_free PushKind.Push v = refl
not_wait_free PushKind.Force v = refl

pub never_push : {A : Type 0} (d : PushKind) (v : A) → is_wait_free (pushes d v) ≡ true → ⊥
never_push PushKind.Push v e = cc
never_push PushKind.Force v e = cc
