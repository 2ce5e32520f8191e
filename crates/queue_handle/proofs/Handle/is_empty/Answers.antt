use Rattle.std.proofs.Common.{rules}
use Rattle.queue_handle.proofs.Handle.is_empty.Goals as goal

pub returns : goal.returns
returns g c = search rules
