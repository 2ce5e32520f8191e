use Rattle.std.proofs.Common.{rules, tests}
use Rattle.machine_memory.proofs.shared_memory.SharedMemory.give_up.Goals as goal

pub returns-then-give_up-clause-counted : goal.returns-then-give_up-clause-counted
returns-then-give_up-clause-counted g c = search (rules, tests)
