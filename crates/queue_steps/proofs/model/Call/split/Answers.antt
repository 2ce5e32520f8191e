use Rattle.std.proofs.Common.{rules}
use Rattle.queue_steps.proofs.model.Call.split.Goals as goal

pub returns-in-ForcePush : goal.returns-in-ForcePush
returns-in-ForcePush g c = search rules
