-- What a call that gives up in the place of waiting adds to its party's view: what the call does that waits, or nothing.
use Rattle.std.specs.Prelude.{◌≡◌, Option, Ok, Err, Result}
use Rattle.std.specs.{ControlFlow.MatchControlFlow, declared.ops.ControlFlow.ControlFlow}
use Rattle.queue_steps.specs.declared.{model.Call.Call, model.Call.Call as call, model.Reply.Reply, model.Reply.Reply as reply, errors.PushError.PushError as push, errors.ForcePushError.ForcePushError as force, errors.PopError.PopError as pop}
use Rattle.queue_steps.specs.Kinds.{call_value}
use Rattle.concurrent_queue.specs.declared.try_errors.{TryPushError.TryPushError, TryPushError.TryPushError as try_push, TryForcePushError.TryForcePushError, TryForcePushError.TryForcePushError as try_force, TryPopError.TryPopError, TryPopError.TryPopError as try_pop}
use Rattle.concurrent_queue.specs.{SawMore.SawMore, Shared.PartyView, Shared.Calls}

module _ {T : Type 0} where
  -- the call c was made, or has done nothing and its value comes back
  abbrev pub Tries : PartyView T → Call T → ControlFlow (Reply T) (Option T) → PartyView T → Type 0
  Tries v c told w = MatchControlFlow told (λ value. SawMore v w × (value ≡ call_value c)) (λ r. Calls v c r w)

  abbrev pub TriesPush : PartyView T → T → Result Unit (TryPushError T) → PartyView T → Type 0
  TriesPush v x (Ok u) w = Calls v (call.Push x) (reply.Push (Ok u)) w
  TriesPush v x (Err (try_push.Full y)) w = Calls v (call.Push x) (reply.Push (Err (push.Full y))) w
  TriesPush v x (Err (try_push.Closed y)) w = Calls v (call.Push x) (reply.Push (Err (push.Closed y))) w
  TriesPush v x (Err (try_push.NoMemory y)) w = Calls v (call.Push x) (reply.Push (Err (push.NoMemory y))) w
  TriesPush v x (Err (try_push.Busy y)) w = SawMore v w × (y ≡ x)

  abbrev pub TriesForcePush : PartyView T → T → Result (Option T) (TryForcePushError T) → PartyView T → Type 0
  TriesForcePush v x (Ok old) w = Calls v (call.ForcePush x) (reply.ForcePush (Ok old)) w
  TriesForcePush v x (Err (try_force.Closed y)) w = Calls v (call.ForcePush x) (reply.ForcePush (Err (force.Closed y))) w
  TriesForcePush v x (Err (try_force.NoMemory y)) w = Calls v (call.ForcePush x) (reply.ForcePush (Err (force.NoMemory y))) w
  TriesForcePush v x (Err (try_force.Busy y)) w = SawMore v w × (y ≡ x)

  abbrev pub TriesPop : PartyView T → Result T TryPopError → PartyView T → Type 0
  TriesPop v (Ok x) w = Calls v call.Pop (reply.Pop (Ok x)) w
  TriesPop v (Err try_pop.Empty) w = Calls v call.Pop (reply.Pop (Err pop.Empty)) w
  TriesPop v (Err try_pop.Closed) w = Calls v call.Pop (reply.Pop (Err pop.Closed)) w
  TriesPop v (Err try_pop.Busy) w = SawMore v w
