-- What a party is whose call has had no effect, and was given up.
use Rattle.std.specs.Prelude.{◌≡◌}
use mathlib.Core.List.{IsPrefix}
use Rattle.queue_steps.specs.Effect.{IsHistory}
use Rattle.shared_parties.specs.{declared.known.InCall.InCall, declared.known.CallState.CallState, Called.call_of_work, Called.nothing_called, CallStates.IsResting, CallStates.HasAll, Calling.CallsOf, Calling.cap_of}

-- the call that a seat is at
abbrev pub its_call : {T : Type 0} → CallState T → InCall T
its_call d = call_of_work nothing_called d.work

-- what a party is whose call was given up: it is between its calls, and has what it had when the call began, of what it has seen since
pub record Quit {T : Type 0} (K : CallsOf T) (c : InCall T) (w : CallState T) : Type 0 where
  pub rests : IsResting w
  pub cap : w.known.cap ≡ cap_of K
  pub legal : IsHistory (cap_of K) w.known.seen
  pub later : IsPrefix c.since w.known.seen
  pub mine : w.known.mine ≡ c.before
  pub share : w.known.share ≡ c.share
  pub owns : HasAll w
