use Rattle.std.proofs.Common.{rules}
use Rattle.exclusive_queue.proofs.exclusive.Exclusive.unbounded_after.Goals as goal

pub returns-in_err-blocks-clause-none : goal.returns-in_err-blocks-clause-none
returns-in_err-blocks-clause-none g c = search rules

pub returns-clause-empty : goal.returns-clause-empty
returns-clause-empty g c = search rules
