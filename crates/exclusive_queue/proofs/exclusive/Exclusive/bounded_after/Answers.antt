use Rattle.std.proofs.Common.{rules}
use Rattle.exclusive_queue.proofs.exclusive.Exclusive.bounded_after.Goals as goal

pub returns-clause-empty : goal.returns-clause-empty
returns-clause-empty g c = search rules
