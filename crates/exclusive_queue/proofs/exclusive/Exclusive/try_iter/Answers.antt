use Rattle.exclusive_queue.proofs.Iterations.{iter_keeps_along}
use Rattle.exclusive_queue.proofs.exclusive.Exclusive.try_iter.Goals as goal

pub returns-clause-stays : goal.returns-clause-stays
returns-clause-stays g c = iter_keeps_along _
