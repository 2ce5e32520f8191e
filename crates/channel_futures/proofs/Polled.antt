-- What a poll's answer says of its end, where it was ready or pending.
use Rattle.std.proofs.Common.{◌≡◌, Option, Some, None, Result, Ok, Err, OnSome, IfSome, IsSome, IsSomeAnd, List, [], ◌∷◌, sym, subst}
use Rattle.std.specs.Prelude.{⊤}
use Rattle.queue_steps.specs.declared.model.Call.{Call as call}
use Rattle.futures.specs.{declared.task.Poll.Poll, declared.task.Poll.TheVariants.Ready, declared.task.Poll.TheVariants.Pending, Poll.IfReady, Poll.OnPending, Runs.After, Runs.Within}
use Rattle.counted_channel.{specs.declared.calls.errors.SendError.SendError, specs.Channel.End, specs.Channel.ChannelCall, specs.Channel.sent, specs.Channel.received, specs.Polling.EndWaited, specs.Polling.HasReceived, specs.Receiving.Received, proofs.Polls.call_then, proofs.Polls.received_then}

pub on_pending : {A P Q : Type 0} (r : Poll A) → (P → Q) → OnPending r P → OnPending r Q
on_pending (Ready x) f h = h
on_pending Pending f h = f h

pub pends : {A P : Type 0} (r : Poll A) → P → OnPending r P
pends (Ready x) h = tt
pends Pending h = h

pub if_ready : {A : Type 0} {P Q : A → Type 0} (r : Poll A) → ((x : A) → P x → Q x) → IfReady r P → IfReady r Q
if_ready (Ready x) f h = f x h
if_ready Pending f h = tt

-- a stream may be polled after each item
pub goes_on : {A : Type 0} (r : Poll (Option A)) → IfReady r (λ o. OnSome o ⊤)
goes_on (Ready (Some x)) = tt
goes_on (Ready None) = tt
goes_on Pending = tt

module _ {T : Type 0} where
  -- what a receive gave is what receives of the end gave
  pub received_once : (d e : End T) (o : Option T) → Received d o e → HasReceived d [] o
  received_once d e o h = (h.0, e, h.1, h.2)

  -- and what follows it is what receives of the end after it give
  pub received_first : (d e : End T) (o : Option T) → Received d o e → IfSome o (λ x. After (HasReceived d) x (HasReceived e))
  received_first d e None h = tt
  received_first d e (Some x) (Ok y, is, called) =
      let same : y ≡ x = cc in
      λ xs last h. (e, subst (λ (z : T). ChannelCall d call.Pop (received (Ok z)) e) same called, h)
  received_first d e (Some x) (Err why, is, called) = cc

  pub received_within : (d m : End T) → EndWaited d m → Within (HasReceived d) (HasReceived m)
  received_within d m w xs last h = received_then d m w xs last h

  abbrev pub MaySend : End T → Option T → Result (Unit {0}) (SendError T) → Type 0
  MaySend d o r = IsSomeAnd o (λ x. (e : End T) × ChannelCall d (call.Push x) (sent r) e)

  pub may_send : (d e : End T) (o : Option T) (r : Result (Unit {0}) (SendError T)) → IsSomeAnd o (λ x. ChannelCall d (call.Push x) (sent r) e) → MaySend d o r
  may_send d e (Some x) r h = (e, h)
  may_send d e None r h = h

  pub sent_same : (d m : End T) (o p : Option T) (r : Result (Unit {0}) (SendError T)) → p ≡ o → EndWaited d m → MaySend m p r → MaySend d o r
  sent_same d m o p r same w h = sent_then o (subst (λ (z : Option T). MaySend m z r) same h)
    where
      sent_then : (z : Option T) → MaySend m z r → MaySend d z r
      sent_then (Some x) k = (k.0, call_then d m k.0 _ _ w k.1)
      sent_then None k = k
