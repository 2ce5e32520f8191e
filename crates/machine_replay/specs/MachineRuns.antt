-- A run of the machine, one event after another: what brought it where it is, and what it leaves.
use Rattle.std.specs.Prelude.{◌≡◌, ◌↔◌, ℕ, ◌+◌, ◌<◌, ◌≤◌, ◌^◌, Bool, false, IsTrue, List, [], ◌∷◌, ◌++◌, length}
use Rattle.machine_replay.specs.{Vocabulary.Kind, Vocabulary.Event, Vocabulary.Told, Vocabulary.Peak, Vocabulary.Running, declared.machine_run.MachineRun.MachineRun, declared.machine_run.RunEnd.RunEnd, Book.Book, Book.Run, Book.opening, Conforms.HasNoBlocks, Conforms.IsPeak, Conforms.capacity_of}
use Rattle.machine_replay.specs.{Conforms.entries_from, Conforms.reply_entry, Conforms.skipped_entry, InCall.IsInCall, Peaks.opening_peak, Peaks.peak_of, Peaks.peaked, Played.IsMade, Played.as_told, Replays.CanReplay, Replays.is_too_large}
use Rattle.machine_memory.specs.{SharedMemory.MemoryState, Room.HasCount, Room.HasRoom}
use Rattle.machine_steps.specs.{Left.left_of, Left.opening_world, Machine.event_of, Machine.world_of, World.World}

-- the machine comes from w, with the peak p, to the last world and the last peak by these events, of which this is told
abbrev pub Comes : {T : Type 0} → Kind → World (MemoryState T) (Running T) → Peak → List (Event T) → List (Told T) → World (MemoryState T) (Running T) → Peak → Type 0
Comes k w p [] [] last top = (last ≡ w) × (top ≡ p)
Comes k w p (e ∷ es) (t ∷ ts) last top = (ok : Bool) × (t ≡ (event_of k ok w e).1) × Comes k (event_of k ok w e).0 (peaked (event_of k ok w e).0 p) es ts last top
Comes k w p _ _ last top = ⊥

-- the run comes by these events, of which this was told, from the empty open queue of this kind that so many parties share
pub record IsMachineRun {T A : Type 0} (k : Kind) (parties : ℕ) (events : List (Event T)) (told : List (Told T)) (c : MachineRun T A) : Type 0 where
  pub can : CanReplay k
  pub small : is_too_large k ≡ false
  pub kind_is : c.machine.kind ≡ k
  pub comes : Comes k (opening_world k parties) opening_peak events told (world_of c.machine) c.peak
  pub counted : HasCount c.machine.memory
  pub few : length (left_of k (world_of c.machine)) ≤ c.handled

-- the run comes by some events
abbrev pub IsSomeMachineRun : {T A : Type 0} → MachineRun T A → Type 0
IsSomeMachineRun {T} c = (k : Kind) × (parties : ℕ) × (events : List (Event T)) × (told : List (Told T)) × IsMachineRun k parties events told c

-- there is room for one event more
abbrev pub CanGoOn : {T A : Type 0} → MachineRun T A → Type 0
CanGoOn c = HasRoom c.machine.memory × (c.handled + 1 < 2 ^ 64)

-- whatever brought the run to c has brought it to d
abbrev pub KeepsRun : {T A : Type 0} → MachineRun T A → MachineRun T A → Type 0
KeepsRun {T} c d = (k : Kind) (parties : ℕ) (events : List (Event T)) (told : List (Told T)) → IsMachineRun k parties events told c → IsMachineRun k parties events told d

-- whatever brought the run to c, this event leads on to d, and this is told of it
abbrev pub Continues : {T A : Type 0} → MachineRun T A → Event T → Told T → MachineRun T A → Type 0
Continues {T} c e t d = (k : Kind) (parties : ℕ) (events : List (Event T)) (told : List (Told T)) → IsMachineRun k parties events told c → IsMachineRun k parties (events ++ e ∷ []) (told ++ t ∷ []) d

-- whatever brought the run to c, this says whether the party is in a call then, as the events and what was told of them have it
abbrev pub TellsCall : {T A : Type 0} → MachineRun T A → ℕ → Bool → Type 0
TellsCall {T} c p says = (k : Kind) (parties : ℕ) (events : List (Event T)) (told : List (Told T)) → IsMachineRun k parties events told c
    → IsTrue says ↔ IsInCall events (entries_from skipped_entry 0 events told) (entries_from reply_entry 0 events told) p (length events)

-- what is told of these events is what the machine makes of them, and leads from the empty open queue to a last book, whose items are left; and the peak is theirs, which is none with a capacity
pub record EndsAs {T A : Type 0} (k : Kind) (parties : ℕ) (events : List (Event T)) (told : List (Told T)) (r : RunEnd T A) : Type 0 where
  pub made : IsMade k parties events told
  pub last : Book T
  pub run : Run (capacity_of k) parties (opening (capacity_of k)) events told last
  pub left : r.left.items ≡ last.queue.items
  pub peak : IsPeak (capacity_of k) parties events told r.peak
  pub peak_is : r.peak ≡ peak_of k parties (as_told events told)
  pub no_blocks : HasNoBlocks (capacity_of k) r.peak

-- whatever brought the run to c, it ends so
abbrev pub Leaves : {T A : Type 0} → MachineRun T A → RunEnd T A → Type 0
Leaves {T} c r = (k : Kind) (parties : ℕ) (events : List (Event T)) (told : List (Told T)) → IsMachineRun k parties events told c → EndsAs k parties events told r
