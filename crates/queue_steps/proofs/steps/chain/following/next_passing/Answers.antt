use Rattle.std.proofs.Common.{rules, tests}
use Rattle.queue_steps.proofs.steps.chain.following.next_passing.Goals as goal

pub returns-in-Asking-default-default-Some-Granted : goal.returns-in-Asking-default-default-Some-Granted
returns-in-Asking-default-default-Some-Granted g c = search (rules, tests)
