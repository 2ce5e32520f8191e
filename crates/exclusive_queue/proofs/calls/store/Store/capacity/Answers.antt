use Rattle.std.proofs.Common.{rules}
use Rattle.exclusive_queue.proofs.calls.store.Store.capacity.Goals as goal

pub returns : goal.returns
returns g c = search rules
