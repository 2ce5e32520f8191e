-- Where the runs of a program start, once the calls that come first are made.
use Rattle.std.specs.Prelude.{◌≡◌, ℕ, false, List, replicate}
use Rattle.queue_steps.specs.declared.{model.Call.Call, steps.types.Kind.Kind}
use Rattle.machine_memory.specs.{declared.calls.Running.Running, declared.types.Event.Event, SharedMemory.MemoryState}
use Rattle.machine_steps.specs.{Left.opening_world, World.World}
use Rattle.machine_explore.specs.{Explored.Prepares, Positions.Standing, Positions.no_progress}
use Rattle.machine_replay.specs.{Played.world_after, Replays.is_too_large}

-- party 0, alone, has made these calls between w and the later world, and is between calls
abbrev pub IsPrepared : Kind → World (MemoryState ℕ) (Running ℕ) → List (Call ℕ) → World (MemoryState ℕ) (Running ℕ) → Type 0
IsPrepared k w calls later = (events : List (Event ℕ)) × Prepares k w calls events × (later ≡ world_after k w events)

-- the run of a program of so many parties starts there, behind the calls that come first
pub record IsStart (k : Kind) (before : List (Call ℕ)) (parties : ℕ) (s : Standing) : Type 0 where
  pub small : is_too_large k ≡ false
  pub kind : s.kind ≡ k
  pub prepared : IsPrepared k (opening_world k parties) before s.world
  pub none_begun : s.parties ≡ replicate parties no_progress
