-- The replies that a call may have.
use Rattle.std.specs.Prelude.{◌≡◌, ℕ, Bool, Option, Some, None, Result, Ok, Err}
use Rattle.queue_steps.specs.declared.model.{Call.Call, Call.Call as call, Reply.Reply, Reply.Reply as reply}
use Rattle.queue_steps.specs.declared.errors.{PopError.PopError, PushError.PushError, PushError.PushError as push, ForcePushError.ForcePushError, ForcePushError.ForcePushError as force}
use Rattle.app_text.specs.Reading.{IsWord}

-- the number that is told, if one is, is a word
abbrev pub IsPushTold : Result Unit (PushError ℕ) → Type 0
IsPushTold (Ok u) = Unit {0}
IsPushTold (Err (push.Full n)) = IsWord n
IsPushTold (Err (push.Closed n)) = IsWord n
IsPushTold (Err (push.NoMemory n)) = IsWord n

abbrev pub IsForcePushTold : Result (Option ℕ) (ForcePushError ℕ) → Type 0
IsForcePushTold (Ok None) = Unit {0}
IsForcePushTold (Ok (Some n)) = IsWord n
IsForcePushTold (Err (force.Closed n)) = IsWord n
IsForcePushTold (Err (force.NoMemory n)) = IsWord n

abbrev pub IsPopTold : Result ℕ PopError → Type 0
IsPopTold (Ok n) = IsWord n
IsPopTold (Err why) = Unit {0}

abbrev pub IsTruthTold : Bool → Type 0
IsTruthTold answer = Unit {0}

abbrev pub IsCapacityTold : Option ℕ → Type 0
IsCapacityTold None = Unit {0}
IsCapacityTold (Some n) = IsWord n

-- the reply tells something of this kind
abbrev pub Says : {T : Type 0} → (T → Type 0) → (T → Reply ℕ) → Reply ℕ → Type 0
Says {T} IsTold reply_of r = (told : T) × IsTold told × (r ≡ reply_of told)

-- the reply is one that the call may have
abbrev pub IsReplyOf : Call ℕ → Reply ℕ → Type 0
IsReplyOf (call.Push v) r = Says IsPushTold reply.Push r
IsReplyOf (call.ForcePush v) r = Says IsForcePushTold reply.ForcePush r
IsReplyOf call.Pop r = Says IsPopTold reply.Pop r
IsReplyOf call.Close r = Says IsTruthTold reply.Close r
IsReplyOf call.IsClosed r = Says IsTruthTold reply.IsClosed r
IsReplyOf call.IsEmpty r = Says IsTruthTold reply.IsEmpty r
IsReplyOf call.IsFull r = Says IsTruthTold reply.IsFull r
IsReplyOf call.Len r = Says IsWord reply.Len r
IsReplyOf call.Capacity r = Says IsCapacityTold reply.Capacity r
