use Rattle.std.proofs.Common.{rules}
use Rattle.machine_memory.proofs.Writing.{put_same}
use Rattle.machine_memory.proofs.shared_memory.SharedMemory.perform.Goals as goal

pub returns-clause-answer : goal.returns-clause-answer
returns-clause-answer g c = search rules

pub returns-clause-memory : goal.returns-clause-memory
returns-clause-memory g c = search (rules, put_same)
