-- Which replies of the queue a channel's answers are, and what its last end does.
use Rattle.std.specs.Prelude.{◌≡◌, Bool, true, false, Result, Ok, Err, Option}
use Rattle.queue_steps.specs.{declared.model.Call.Call as call, declared.model.Reply.Reply, declared.model.Reply.Reply as reply, declared.errors.PopError.PopError as pop, declared.errors.PushError.PushError as push, declared.errors.ForcePushError.ForcePushError as force, Effect.after}
use Rattle.concurrent_queue.specs.Shared.{PartyView, Calls}
use Rattle.counted_channel.specs.declared.calls.errors.{SendError.SendError, SendError.SendError as send, Disconnected.Disconnected}
use Rattle.counted_channel.specs.declared.calls.waited.{Pushed.Pushed, Pushed.Pushed as put, ForcePushed.ForcePushed, ForcePushed.ForcePushed as forced, Popped.Popped, Popped.Popped as taken}

-- the replies of the queue that the channel's answers stand for
abbrev pub sent : {T : Type 0} → Result (Unit {0}) (SendError T) → Reply T
sent (Ok done) = reply.Push (Ok done)
sent (Err (send.Closed v)) = reply.Push (Err (push.Closed v))
sent (Err (send.NoMemory v)) = reply.Push (Err (push.NoMemory v))

abbrev pub force_sent : {T : Type 0} → Result (Option T) (SendError T) → Reply T
force_sent (Ok old) = reply.ForcePush (Ok old)
force_sent (Err (send.Closed v)) = reply.ForcePush (Err (force.Closed v))
force_sent (Err (send.NoMemory v)) = reply.ForcePush (Err (force.NoMemory v))

abbrev pub received : {T : Type 0} → Result T Disconnected → Reply T
received (Ok x) = reply.Pop (Ok x)
received (Err why) = reply.Pop (Err pop.Closed)

-- those that the answers of one call stand for
abbrev pub pushed : {T : Type 0} → Pushed T → Reply T
pushed (put.Done owed) = reply.Push (Ok tt)
pushed (put.Full v vain) = reply.Push (Err (push.Full v))
pushed (put.Closed v owed) = reply.Push (Err (push.Closed v))
pushed (put.NoMemory v) = reply.Push (Err (push.NoMemory v))

abbrev pub force_pushed : {T : Type 0} → ForcePushed T → Reply T
force_pushed (forced.Done old owed) = reply.ForcePush (Ok old)
force_pushed (forced.Closed v owed) = reply.ForcePush (Err (force.Closed v))
force_pushed (forced.NoMemory v) = reply.ForcePush (Err (force.NoMemory v))

abbrev pub popped : {T : Type 0} → Popped T → Reply T
popped (taken.Item x owed) = reply.Pop (Ok x)
popped (taken.Empty vain) = reply.Pop (Err pop.Empty)
popped taken.Closed = reply.Pop (Err pop.Closed)

-- the party has seen the queue closed
abbrev pub HasSeenClosed : {T : Type 0} → PartyView T → Type 0
HasSeenClosed p = (after p.queue.cap p.view.seen).closed ≡ true

-- The end is no more, and its party v is given back as w. Where it was the last of its side, w has called close, and has seen the queue closed; else nothing was called
abbrev pub Ends : {T : Type 0} → PartyView T → PartyView T → Bool → Type 0
Ends v w true = ((closed : Bool) × Calls v call.Close (reply.Close closed) w) × HasSeenClosed w
Ends v w false = w ≡ v
