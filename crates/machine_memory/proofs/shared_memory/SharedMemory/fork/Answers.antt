use Rattle.std.proofs.Common.{rules}
use Rattle.machine_memory.proofs.shared_memory.SharedMemory.fork.Goals as goal

pub returns-clause-memory : goal.returns-clause-memory
returns-clause-memory g c = search rules
