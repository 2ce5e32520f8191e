use Rattle.channel_handle.proofs.Iterations.{iter_keeps_along}
use Rattle.channel_handle.proofs.iter.Receiver+T+A.iter.Goals as goal

pub returns-clause-stays : goal.returns-clause-stays
returns-clause-stays g c = iter_keeps_along _
