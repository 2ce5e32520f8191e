use Rattle.channel_handle.proofs.Iterations.{try_iter_keeps_along}
use Rattle.channel_handle.proofs.iter.Receiver+T+A.try_iter.Goals as goal

pub returns-clause-stays : goal.returns-clause-stays
returns-clause-stays g c = try_iter_keeps_along _
