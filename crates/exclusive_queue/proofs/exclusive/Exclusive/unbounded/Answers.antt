use Rattle.std.proofs.Common.{rules}
use Rattle.exclusive_queue.proofs.exclusive.Exclusive.unbounded.Goals as goal

pub returns : goal.returns
returns g c = search rules
