use Rattle.std.proofs.Common.{rules, tests}
use Rattle.queue_steps.proofs.errors.PopError.is_closed.Goals as goal

pub returns-in-Closed : goal.returns-in-Closed
returns-in-Closed c = search (rules, tests)

pub returns-in_default : goal.returns-in_default
returns-in_default c = search (rules, tests)
