use Rattle.std.proofs.Common.{rules}
use Rattle.queue_steps.proofs.errors.PopErrorDisplay.fmt.Goals as goal

pub returns-in-Closed-clause-styled : goal.returns-in-Closed-clause-styled
returns-in-Closed-clause-styled g c = search rules
