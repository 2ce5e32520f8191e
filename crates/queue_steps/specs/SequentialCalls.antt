-- A call of the only party of a queue is a call of one owner.
use Rattle.std.specs.Prelude.{◌≡◌, ◌⊎◌, ℕ, List, [], ◌++◌, Option, None}
use Rattle.queue_steps.specs.declared.model.{Call.Call, Reply.Reply, Effect.Effect}
use Rattle.queue_steps.specs.{Effect.after, Legal.IsShown, Shares.IsEntire, Replies.LacksMemory, Replies.Tells, Sequential.sequential_reply, Sequential.sequential_state, Parties.View, Parties.IsView, Parties.SharedCall}

-- what the party has then seen is what it had seen and its own effects. The reply and the next state are those of the table of one owner,
-- or a queue without a capacity was refused a block, and nothing changed
pub record SequentialCall {T : Type 0} (cap : Option ℕ) (v w : View T) (c : Call T) (r : Reply T) : Type 0 where
  pub effects : List (Effect T)
  pub tells : Tells c r effects
  pub seen : w.seen ≡ v.seen ++ effects
  pub table : ((r ≡ sequential_reply (after cap v.seen) c) × IsShown (sequential_state (after cap v.seen) c) (after cap w.seen))
      ⊎ ((cap ≡ None) × LacksMemory (after cap v.seen) c r × (effects ≡ []))

-- a shared call of the party that has all of the share is such a call
abbrev pub WholeCalls : Type 0 → Type 0
WholeCalls T = (cap : Option ℕ) (v w : View T) (c : Call T) (r : Reply T) → IsView cap v → IsView cap w → SharedCall cap v w c r → IsEntire v.share → SequentialCall cap v w c r
