-- What brought a machine where it is, as a reader's book has it: at each point of a run, and of the events that an explorer makes.
use Rattle.std.specs.Prelude.{◌≡◌, ℕ, false, List}
use Rattle.machine_replay.specs.{declared.machine_run.MachineRun.MachineRun, Book.Book, Book.Run, Book.opening, Conforms.capacity_of, MachineRuns.IsMachineRun, Played.told_of, Played.world_after, Replays.CanReplay, Replays.is_too_large}
use Rattle.machine_replay.specs.Vocabulary.{Kind, Event, Told, Running}
use Rattle.machine_steps.specs.{Left.left_of, Left.opening_world, Machine.world_of, World.World}
use Rattle.machine_memory.specs.SharedMemory.{MemoryState}

-- what is told of these events leads from the empty open queue to a last book, and the machine holds the items of its queue
pub record HasBook {T : Type 0} (k : Kind) (parties : ℕ) (events : List (Event T)) (told : List (Told T)) (w : World (MemoryState T) (Running T)) : Type 0 where
  pub last : Book T
  pub run : Run (capacity_of k) parties (opening (capacity_of k)) events told last
  pub left : left_of k w ≡ last.queue.items

-- so it is of a run of the machine at each of its points, whether or not it can be ended
abbrev pub RunsHaveBooks : Type 0 → Type 0 → Type 0
RunsHaveBooks T A = (k : Kind) (parties : ℕ) (events : List (Event T)) (told : List (Told T)) (c : MachineRun T A) → IsMachineRun k parties events told c → HasBook k parties events told (world_of c.machine)

-- so it is of any events, where each request that no event refuses is granted
abbrev pub EventsHaveBooks : Type 0 → Type 0
EventsHaveBooks T = (k : Kind) (parties : ℕ) (events : List (Event T)) → CanReplay k → is_too_large k ≡ false
    → HasBook k parties events (told_of k (opening_world k parties) events) (world_after k (opening_world k parties) events)
