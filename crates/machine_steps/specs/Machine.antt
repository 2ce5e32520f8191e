-- The machine as a value, and what one event of it owes.
use Rattle.std.specs.Prelude.{◌≡◌, Bool, Some, List, [], ◌∷◌}
use Rattle.queue_steps.specs.declared.steps.types.Kind.{Kind}
use Rattle.machine_memory.specs.{declared.calls.Running.Running, declared.types.Event.Event, declared.types.Event.TheVariants.Begin, declared.types.Event.TheVariants.Step, declared.types.Told.Told, SharedMemory.MemoryState, SharedMemory.shared_of}
use Rattle.machine_steps.specs.{declared.machine.Machine.Machine, World.World, World.call_at, World.world_event, Steps.CanStart, Steps.CanStep, Steps.step_of, Steps.start_of}

abbrev pub world_of : {T A : Type 0} → Machine T A → World (MemoryState T) (Running T)
world_of m = record { shared = shared_of m.memory; calls = m.calls.items }

-- the machine after an event, and what is told of it. `ok` says whether the allocator grants a block that is asked for
abbrev pub event_of : {T : Type 0} → Kind → Bool → World (MemoryState T) (Running T) → Event T → World (MemoryState T) (Running T) × Told T
event_of k ok w e = world_event (step_of k) (start_of k) w ok e

-- the call that the event begins can begin, and the step that it takes can be taken
abbrev pub CanHandle : {T : Type 0} → Kind → World (MemoryState T) (Running T) → Event T → Type 0
CanHandle k w (Begin p c) = CanStart k c
CanHandle {T} k w (Step p granted) = (ok : Bool) (r : Running T) → call_at w p ≡ Some r → CanStep k ok w.shared r

-- the allocator grants or refuses a block, and the machine handles the event so
pub record Handles {T : Type 0} (k : Kind) (w : World (MemoryState T) (Running T)) (e : Event T) (after : World (MemoryState T) (Running T)) (told : Told T) : Type 0 where
  pub ok : Bool
  pub world : after ≡ (event_of k ok w e).0
  pub told_is : told ≡ (event_of k ok w e).1

-- the machine comes from w by these events, one after another, to the last world
abbrev pub PassesAll : {T : Type 0} → Kind → World (MemoryState T) (Running T) → List (Event T) → World (MemoryState T) (Running T) → Type 0
PassesAll k w [] last = last ≡ w
PassesAll k w (e ∷ es) last = (ok : Bool) × PassesAll k (event_of k ok w e).0 es last

-- the machine handles the event, whatever is told of it
abbrev pub Passes : {T : Type 0} → Kind → World (MemoryState T) (Running T) → Event T → World (MemoryState T) (Running T) → Type 0
Passes k w e after = (ok : Bool) × (after ≡ (event_of k ok w e).0)
