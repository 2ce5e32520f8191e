use Rattle.std.proofs.Common.{rules}
use Rattle.queue_steps.proofs.errors.PushErrorDisplay.fmt.Goals as goal

pub returns-in-Full-clause-styled : goal.returns-in-Full-clause-styled
returns-in-Full-clause-styled g c = search rules
