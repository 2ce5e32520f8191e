-- Calls that change nothing.
use Rattle.std.specs.Prelude.{◌≡◌, Option, Some, None, refl, Ok, Err}
use Rattle.std.proofs.Common.{inl, inr, ap, ◌∙◌, subst}
use Rattle.queue_steps.specs.declared.{model.Call.Call, model.Call.Call as call, model.Reply.Reply, model.Reply.Reply as reply, errors.PushError.PushError as push, errors.ForcePushError.ForcePushError as force}
use Rattle.queue_steps.specs.{Kinds.call_kind, Kinds.call_value, Kinds.with_value, Kinds.reply_kind, Kinds.filled, Looks.IsLook, Looks.look_reply, Sequential.Owned, Sequential.Sequential}

-- the same call, of a queue of T
abbrev pub as_call : {T : Type 0} → Call Unit → Call T
as_call c = with_value c None

pub kind-as_call : {T : Type 0} (c : Call Unit) → IsLook c → (call_kind (as_call {T = T} c) ≡ c) × (call_value (as_call {T = T} c) ≡ None)
kind-as_call (call.Push v) h = absurd h
kind-as_call (call.ForcePush v) h = absurd h
kind-as_call call.Pop h = absurd h
kind-as_call call.Close h = absurd h
kind-as_call look h = (refl, refl)

-- the kind of a reply that is there, or else this one
abbrev kind_or : {T : Type 0} → Reply Unit → Option (Reply T) → Reply Unit
kind_or r None = r
kind_or r (Some x) = reply_kind x

-- a reply that was filled with no value has its own kind
pub filled-none : {T : Type 0} (r : Reply Unit) (x : Reply T) → filled r None ≡ Some x → r ≡ reply_kind x
filled-none (reply.Push (Ok u)) x e = let h : reply.Push (Ok tt) ≡ x = cc in subst (λ y. reply.Push (Ok tt) ≡ reply_kind y) h refl
filled-none (reply.Push (Err (push.Full u))) x e = cc
filled-none (reply.Push (Err (push.Closed u))) x e = cc
filled-none (reply.Push (Err (push.NoMemory u))) x e = cc
filled-none (reply.ForcePush (Ok None)) x e = let h : reply.ForcePush (Ok None) ≡ x = cc in subst (λ y. reply.ForcePush (Ok None) ≡ reply_kind y) h refl
filled-none (reply.ForcePush (Ok (Some u))) x e = cc
filled-none (reply.ForcePush (Err (force.Closed u))) x e = cc
filled-none (reply.ForcePush (Err (force.NoMemory u))) x e = cc
filled-none (reply.Pop (Ok u)) x e = cc
filled-none (reply.Pop (Err w)) x e = let h : reply.Pop (Err w) ≡ x = cc in subst (λ y. reply.Pop (Err w) ≡ reply_kind y) h refl
filled-none r x e = ap (kind_or r) e

-- what the table says of a call that changes nothing
look-sequential : {T : Type 0} (P R : Owned T) (c : Call Unit) (x : Reply T) → IsLook c → Sequential P (as_call c) x R → reply_kind x ≡ look_reply P.queue c
look-sequential P R (call.Push v) x h s = absurd h
look-sequential P R (call.ForcePush v) x h s = absurd h
look-sequential P R call.Pop x h s = absurd h
look-sequential P R call.Close x h s = absurd h
look-sequential P R look x h (inl s) = ap reply_kind s.0
look-sequential P R look x h (inr s) = absurd s.0

pub look-answer : {T : Type 0} (P R : Owned T) (c : Call Unit) (r : Reply Unit) (x : Reply T) → IsLook c → filled r None ≡ Some x → Sequential P (as_call c) x R → r ≡ look_reply P.queue c
look-answer P R c r x h e s = filled-none r x e ∙ look-sequential P R c x h s
