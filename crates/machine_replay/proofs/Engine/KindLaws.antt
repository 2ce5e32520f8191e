-- What a kind of queue owes, so that every run of it conforms.
use Rattle.std.specs.Prelude.{◌≡◌, ℕ, ◌<◌, ◌≤◌, Some, length}
use Rattle.queue_steps.specs.{State.State, State.start, Sequential.blocks_of}
use Rattle.machine_replay.specs.{Vocabulary.Kind, Vocabulary.Running, Book.Book, Book.Open, Conforms.capacity_of, Conforms.share, Peaks.held}
use Rattle.machine_memory.specs.{Present.present, SharedMemory.MemoryState, Opening.opening_shared}
use Rattle.machine_steps.specs.{World.World, Steps.CanStep, Steps.step_of, Steps.start_of, Left.left_of}
use Rattle.machine_replay.proofs.Engine.Events as engine

-- the laws of the engine, at the shared memory of the machine
abbrev pub LawsOf : (T : Type 0) (k : Kind) (G : Type 0) (Holds : MemoryState T → State T → G → Type 0) (Idle : G → ℕ → Type 0) (Fits : ℕ → MemoryState T → State T → G → ℕ → Running T → Open T → Type 0) → Type 0
LawsOf T k G Holds Idle Fits = engine.Laws T (MemoryState T) (Running T) G (capacity_of k) (step_of k) (start_of k) (CanStep k) Holds Idle Fits

abbrev pub SimulatesOf : (T : Type 0) (k : Kind) (G : Type 0) (Holds : MemoryState T → State T → G → Type 0) (Idle : G → ℕ → Type 0) (Fits : ℕ → MemoryState T → State T → G → ℕ → Running T → Open T → Type 0) → ℕ → World (MemoryState T) (Running T) → Book T → Type 0
SimulatesOf T k G Holds Idle Fits = engine.Simulates T (MemoryState T) (Running T) G (capacity_of k) (step_of k) (start_of k) (CanStep k) Holds Idle Fits

-- How many blocks there are: no more than the bound, no less than what the items span, and none with a capacity. Where there is one, the words
-- of the head and the tail tell how many items there are.
pub record IsCounted {T : Type 0} (w : World (MemoryState T) (Running T)) (b : Book T) : Type 0 where
  pub within : present w.shared.blocks ≤ share b
  pub spans : 0 < b.queue.accepted → blocks_of b.queue ≤ present w.shared.blocks
  pub none : (n : ℕ) → b.queue.cap ≡ Some n → present w.shared.blocks ≡ 0
  pub held_is : 0 < present w.shared.blocks → held w.shared ≡ length b.queue.items

-- what its proof keeps, that each step of a call is right, and the opening
pub record Rules (T : Type 0) (k : Kind) : Type 1 where
  pub G : Type 0
  pub Holds : MemoryState T → State T → G → Type 0
  pub Idle : G → ℕ → Type 0
  pub Fits : ℕ → MemoryState T → State T → G → ℕ → Running T → Open T → Type 0
  pub laws : LawsOf T k G Holds Idle Fits
  pub first : G
  pub opens : Holds (opening_shared k) (start (capacity_of k) 0) first
  pub all_idle : (p : ℕ) → Idle first p

abbrev pub SimulatesBy : {T : Type 0} {k : Kind} → Rules T k → ℕ → World (MemoryState T) (Running T) → Book T → Type 0
SimulatesBy {T} {k} r = SimulatesOf T k r.G r.Holds r.Idle r.Fits

-- and what the machine tells beside: the list that is left, also where items are not yet written, and how many blocks there are
pub record KindLaws (T : Type 0) (k : Kind) : Type 1 where
  pub rules : Rules T k
  pub leaves : (parties : ℕ) (w : World (MemoryState T) (Running T)) (b : Book T) → SimulatesBy rules parties w b → left_of k w ≡ b.queue.items
  pub counts : (parties : ℕ) (w : World (MemoryState T) (Running T)) (b : Book T) → SimulatesBy rules parties w b → IsCounted w b
