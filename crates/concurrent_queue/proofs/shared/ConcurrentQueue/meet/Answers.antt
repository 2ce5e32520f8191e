use Rattle.std.proofs.Common.{rules}
use Rattle.concurrent_queue.proofs.shared.ConcurrentQueue.meet.Goals as goal

pub returns : goal.returns
returns g c = search rules
