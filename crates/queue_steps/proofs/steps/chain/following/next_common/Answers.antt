use Rattle.std.proofs.Common.{rules, tests}
use Rattle.queue_steps.proofs.steps.chain.following.next_common.Goals as goal

pub returns-in-Taking-Found : goal.returns-in-Taking-Found
returns-in-Taking-Found g c = search (rules, tests)
