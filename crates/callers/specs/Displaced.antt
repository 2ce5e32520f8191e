-- What a forced push that displaced an item is in what the history of its queue settles into.
use Rattle.std.specs.Prelude.{◌≡◌, ℕ, List, ◌++◌, length, Option, Some, Ok}
use mathlib.Core.List.{IsPrefix}
use Rattle.queue_steps.specs.{declared.model.Call.Call as call, declared.model.Reply.Reply as reply, declared.model.Effect.Effect, Effect.IsHistory, Effect.after, Replies.Tells, Parties.View}
use Rattle.queue_laws.specs.Moment.{Moments.IsAtOnce, Moments.arrived, Entries.effects_in, Shared.is_own, Shared.settled_history, Shared.StandsTogether}

-- At the places that the party's call has added, its effects are those of a forced push that put the value for the old item, in what the history h settles into: one right after the other, past what the party
-- had seen before and within what it has seen then.
pub record IsDisplacedIn {T : Type 0} (h : List (Effect T)) (v w : View T) (old value : T) : Type 0 where
  pub places : List ℕ
  pub mine : w.mine ≡ v.mine ++ places
  pub effects : List (Effect T)
  pub tells : Tells (call.ForcePush value) (reply.ForcePush (Ok (Some old))) effects
  pub together : StandsTogether (settled_history h) (is_own places (length v.seen) (length w.seen)) (length v.seen) (length w.seen) effects

-- Whatever history goes on from what the party has seen: what it settles into is a history in which each displacement is one moment, with the same end once all has arrived, and in it the old item goes
-- and the value comes with nothing between the two.
abbrev pub DisplacedAtOnce : {T : Type 0} → Option ℕ → View T → View T → T → T → Type 0
DisplacedAtOnce {T} cap v w old value = (h : List (Effect T)) → IsHistory cap h → IsPrefix w.seen h
    → IsAtOnce cap (effects_in (settled_history h)) × (after cap (effects_in (settled_history h)) ≡ arrived (after cap h)) × IsDisplacedIn h v w old value
