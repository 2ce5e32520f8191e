use Rattle.std.proofs.Common.{rules, tests}
use Rattle.queue_steps.proofs.errors.PushError.is_full.Goals as goal

pub returns-in_default : goal.returns-in_default
returns-in_default g c = search (rules, tests)
