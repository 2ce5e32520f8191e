use Rattle.std.proofs.Common.{rules}
use Rattle.queue_handle.proofs.Handle.meet.Goals as goal

pub returns : goal.returns
returns g c = search rules
