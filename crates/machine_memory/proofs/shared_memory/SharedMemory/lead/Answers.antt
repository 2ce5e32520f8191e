use Rattle.std.proofs.Common.{rules, tests}
use Rattle.machine_memory.proofs.shared_memory.SharedMemory.lead.Goals as goal

pub returns-in-Next-clause-memory : goal.returns-in-Next-clause-memory
returns-in-Next-clause-memory g c = search (rules, tests)
