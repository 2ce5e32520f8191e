-- Which call a reply answers.
use Rattle.std.specs.Prelude.{◌≡◌, Bool, true, false, Option, Some, None, Ok, Err, refl, if◌then◌else◌}
use Rattle.std.proofs.Common.{inl, inr, ap, sym, ◌∙◌, subst}
use Rattle.queue_steps.specs.{State.State, State.is_full, Kinds.call_kind, Kinds.call_of_reply, Kinds.filled, Sequential.Owned, Sequential.Sequential, Sequential.is_spent}
use Rattle.queue_steps.specs.declared.{model.Call.Call, model.Call.Call as call, model.Reply.Reply, model.Reply.Reply as reply, errors.PushError.PushError as push, errors.ForcePushError.ForcePushError as force}
use Rattle.call_driver.specs.Apart.{AnswersApart}

-- a reply that is filled, if it is, answers the call that its kind answers
abbrev AnswersCall : {T : Type 0} → Option (Reply T) → Call Unit → Type 0
AnswersCall None k = Unit
AnswersCall (Some x) k = call_of_reply x ≡ k

filled-keeps : {T : Type 0} (r : Reply Unit) (y : Option T) → AnswersCall (filled r y) (call_of_reply r)
filled-keeps (reply.Push (Ok u)) None = refl
filled-keeps (reply.Push (Ok u)) (Some v) = tt
filled-keeps (reply.Push (Err (push.Full u))) None = tt
filled-keeps (reply.Push (Err (push.Full u))) (Some v) = refl
filled-keeps (reply.Push (Err (push.Closed u))) None = tt
filled-keeps (reply.Push (Err (push.Closed u))) (Some v) = refl
filled-keeps (reply.Push (Err (push.NoMemory u))) None = tt
filled-keeps (reply.Push (Err (push.NoMemory u))) (Some v) = refl
filled-keeps (reply.ForcePush (Ok None)) None = refl
filled-keeps (reply.ForcePush (Ok None)) (Some v) = tt
filled-keeps (reply.ForcePush (Ok (Some u))) None = tt
filled-keeps (reply.ForcePush (Ok (Some u))) (Some v) = refl
filled-keeps (reply.ForcePush (Err (force.Closed u))) None = tt
filled-keeps (reply.ForcePush (Err (force.Closed u))) (Some v) = refl
filled-keeps (reply.ForcePush (Err (force.NoMemory u))) None = tt
filled-keeps (reply.ForcePush (Err (force.NoMemory u))) (Some v) = refl
filled-keeps (reply.Pop (Ok u)) None = tt
filled-keeps (reply.Pop (Ok u)) (Some v) = refl
filled-keeps (reply.Pop (Err e)) None = refl
filled-keeps (reply.Pop (Err e)) (Some v) = tt
filled-keeps r None = refl
filled-keeps r (Some v) = tt

picks : {T : Type 0} (k : Call Unit) (a b d : Bool) (o p q r : Reply T × State T) → call_of_reply o.0 ≡ k → call_of_reply p.0 ≡ k → call_of_reply q.0 ≡ k → call_of_reply r.0 ≡ k
    → call_of_reply (if a then o else (if b then p else (if d then q else r))).0 ≡ k
picks k true b d o p q r is_o is_p is_q is_r = is_o
picks k false true d o p q r is_o is_p is_q is_r = is_p
picks k false false true o p q r is_o is_p is_q is_r = is_q
picks k false false false o p q r is_o is_p is_q is_r = is_r

-- what a call is answered by the table of one owner is an answer to it
sequential-answered : {T : Type 0} (P R : Owned T) (c : Call T) (x : Reply T) → Sequential P c x R → call_of_reply x ≡ call_kind c
sequential-answered P R (call.Push v) x (inl s) = ap call_of_reply s.0 ∙ picks (call.Push tt) P.queue.closed (is_spent P.queue) (is_full P.queue) _ _ _ _ refl refl refl refl
sequential-answered P R (call.ForcePush v) x (inl s) = ap call_of_reply s.0 ∙ picks (call.ForcePush tt) P.queue.closed (is_spent P.queue) (is_full P.queue) _ _ _ _ refl refl refl refl
sequential-answered P R c x (inl s) = ap call_of_reply s.0
sequential-answered P R (call.Push v) (reply.Push x) (inr s) = refl
sequential-answered P R (call.ForcePush v) (reply.ForcePush x) (inr s) = refl
sequential-answered P R c x (inr s) = absurd s.0

-- the kind of the reply tells the call
pub apart-answered : {T : Type 0} (P R : Owned T) (c : Call T) (r : Reply Unit) (y : Option T) → AnswersApart P c r y R → call_of_reply r ≡ call_kind c
apart-answered P R c r y outcome =
    let kept : call_of_reply outcome.0 ≡ call_of_reply r = subst (λ it. AnswersCall it (call_of_reply r)) outcome.1 (filled-keeps r y) in
    sym kept ∙ sequential-answered P R c outcome.0 outcome.2
