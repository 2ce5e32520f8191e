-- The words of a machine, as a value.
use Rattle.std.specs.Prelude.{◌≡◌, ℕ, List}
use Rattle.machine_replay.specs.{Vocabulary.Kind, Vocabulary.Event, Vocabulary.Running, declared.words.QueueWords.QueueWords}
use Rattle.machine_steps.specs.{Left.opening_world, Machine.PassesAll, World.World}
use Rattle.machine_memory.specs.SharedMemory.{MemoryState}

-- these are the words of what is shared
pub record AreWords {T A : Type 0} (s : MemoryState T) (w : QueueWords A) : Type 0 where
  pub lock : w.lock ≡ s.lock
  pub head : w.head ≡ s.head
  pub tail : w.tail ≡ s.tail
  pub stamps : w.stamps.items ≡ s.stamps

-- these are the words of a machine that comes from its opening by these events
pub record AreWordsAfter {T A : Type 0} (k : Kind) (parties : ℕ) (events : List (Event T)) (w : QueueWords A) : Type 0 where
  pub last : World (MemoryState T) (Running T)
  pub plays : PassesAll k (opening_world k parties) events last
  pub words : AreWords last.shared w
