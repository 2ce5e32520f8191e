-- What a list of events makes of a machine, where the allocator grants each request that no event refuses, and what a replay tells by that.
use Rattle.std.specs.Prelude.{◌≡◌, ℕ, ◌&&◌, Bool, true, false, not, Option, Some, None, Err, List, [], ◌∷◌}
use Rattle.machine_replay.specs.Vocabulary.{Call, Reply, PushError, ForcePushError, Kind, Op, Local, Event, Told, Replay, Begin, Step, Ran, Running}
use Rattle.machine_replay.specs.{Conforms.entries_from, Conforms.reply_entry, Conforms.effect_entry, Conforms.skipped_entry, Peaks.peak_of}
use Rattle.machine_steps.specs.{Left.left_of, Left.opening_world, Steps.start_of, Steps.step_of, World.Begun, World.StepOutcome, World.World, World.world_event}
use Rattle.machine_memory.specs.SharedMemory.{MemoryState}

-- a machine after these events, where each request that no event refuses is granted, and what is told of them, whatever is shared and whatever its steps are
abbrev pub world_by : {S R T : Type 0} → (Bool → S → R → StepOutcome S R T) → (Call T → Begun R T) → World S R → List (Event T) → World S R
world_by step start w [] = w
world_by step start w (e ∷ es) = world_by step start (world_event step start w true e).0 es

abbrev pub told_by : {S R T : Type 0} → (Bool → S → R → StepOutcome S R T) → (Call T → Begun R T) → World S R → List (Event T) → List (Told T)
told_by step start w [] = []
told_by step start w (e ∷ es) = (world_event step start w true e).1 ∷ told_by step start (world_event step start w true e).0 es

-- the same of a queue of this kind
abbrev pub world_after : {T : Type 0} → Kind → World (MemoryState T) (Running T) → List (Event T) → World (MemoryState T) (Running T)
world_after k w es = world_by (step_of k) (start_of k) w es

abbrev pub told_of : {T : Type 0} → Kind → World (MemoryState T) (Running T) → List (Event T) → List (Told T)
told_of k w es = told_by (step_of k) (start_of k) w es

-- whether the reply, and what is told, is of want of memory
abbrev pub is_no_memory : {T : Type 0} → Reply T → Bool
is_no_memory (Reply.Push (Err (PushError.NoMemory v))) = true
is_no_memory (Reply.ForcePush (Err (ForcePushError.NoMemory v))) = true
is_no_memory _ = false

abbrev pub lacks_memory : {T : Type 0} → Told T → Bool
lacks_memory (Ran k (Some r)) = is_no_memory r
lacks_memory _ = false

-- the event as it took place, by what is told of it: a step that tells of want of memory was refused its request, by its event or by the allocator
abbrev pub event_told : {T : Type 0} → Event T → Told T → Event T
event_told (Step p granted) t = Step p (granted && not (lacks_memory t))
event_told (Begin p c) t = Begin p c

abbrev pub as_told : {T : Type 0} → List (Event T) → List (Told T) → List (Event T)
as_told (e ∷ es) (t ∷ ts) = event_told e t ∷ as_told es ts
as_told es _ = es

-- what is told is what the machine makes of the events as they took place. So the events and what is told fix which requests were refused
abbrev pub IsMade : {T : Type 0} → Kind → ℕ → List (Event T) → List (Told T) → Type 0
IsMade k parties events told = told ≡ told_of k (opening_world k parties) (as_told events told)

-- the lists, what is left and the peak are what the machine makes of the events as they took place
pub record IsPlayed {T A : Type 0} (k : Kind) (parties : ℕ) (events : List (Event T)) (r : Replay T A) : Type 0 where
  pub told : List (Told T)
  pub made : IsMade k parties events told
  pub replies : r.replies.items ≡ entries_from reply_entry 0 events told
  pub effects : r.effects.items ≡ entries_from effect_entry 0 events told
  pub skipped : r.skipped.items ≡ entries_from skipped_entry 0 events told
  pub left : r.left.items ≡ left_of k (world_after k (opening_world k parties) (as_told events told))
  pub peak : r.peak ≡ peak_of k parties (as_told events told)

-- where the party's call stands, if it is in one
abbrev pub local_in : {T : Type 0} → Option (Running T) → Option (Local ℕ)
local_in None = None
local_in (Some r) = Some r.local

-- whether the operation is a request for a block, and whether a party's call has that before it
abbrev pub is_request : Op ℕ → Bool
is_request Op.Ask = true
is_request _ = false

abbrev pub asks : {T : Type 0} → Option (Running T) → Bool
asks None = false
asks (Some r) = is_request r.op
