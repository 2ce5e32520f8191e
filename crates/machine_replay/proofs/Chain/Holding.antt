-- What is so of a machine over a chain of blocks between its steps.
use Rattle.std.proofs.Common.{◌≡◌}
use Rattle.queue_steps.specs.State.{State}
use Rattle.queue_laws.specs.Chain.ChainCells.{Chain, queue_of, ChainOk}
use Rattle.machine_memory.specs.SharedMemory.{MemoryState}
use Rattle.machine_replay.proofs.Chain.Coded.{CodesShared}

-- the chain stands for the state, and the words, the links and the blocks for the chain
pub record ChainHolds {A : Type 0} (s : MemoryState A) (Q : State A) (g : Chain A) : Type 0 where
  pub ok : ChainOk g
  pub codes : CodesShared s g
  pub queue_is : Q ≡ queue_of g
