-- Where a run of a program stands, and the outcome that it ends with.
use Rattle.std.specs.Prelude.{◌≡◌, ℕ, ◌<◌, List, [], length, map, slice_index_or}
use Rattle.queue_steps.specs.declared.{model.Call.Call, model.Reply.Reply, steps.types.Kind.Kind}
use Rattle.machine_memory.specs.{declared.calls.Running.Running, SharedMemory.MemoryState}
use Rattle.machine_steps.specs.{World.World, Left.left_of}

-- how far a party is: how many of its calls it has begun, and the replies so far
pub record Progress (T : Type 0) : Type 0 where
  pub begun : ℕ
  pub replies : List (Reply T)

-- where a run stands: what the parties share, the call that each is in, and how far each is
pub record Configuration (S R T : Type 0) : Type 0 where
  pub kind : Kind
  pub world : World S R
  pub parties : List (Progress T)

-- where a run of the machine stands
abbrev pub Standing : Type 0
Standing = Configuration (MemoryState ℕ) (Running ℕ) ℕ

-- a party that has begun no call
abbrev pub no_progress : {T : Type 0} → Progress T
no_progress = record { begun = 0; replies = [] }

-- how far the party is
abbrev pub progress_of : {S R T : Type 0} → Configuration S R T → ℕ → Progress T
progress_of s p = slice_index_or s.parties p no_progress

-- the calls that the party is to make
abbrev pub calls_of : {T : Type 0} → List (List (Call T)) → ℕ → List (Call T)
calls_of calls p = slice_index_or calls p []

-- each party has a reply to each of its calls
abbrev pub IsFinal : {S R T : Type 0} → List (List (Call T)) → Configuration S R T → Type 0
IsFinal calls s = (p : ℕ) → p < length calls → length (progress_of s p).replies ≡ length (calls_of calls p)

-- what a run ends with: the replies of each party in their order, and the items that are left, front first
pub record Outcome (T : Type 0) : Type 0 where
  pub replies : List (List (Reply T))
  pub left : List T

-- what a run that stands there has ended with
abbrev pub outcome_at : Standing → Outcome ℕ
outcome_at s = record { replies = map (λ g. g.replies) s.parties; left = left_of s.kind s.world }
