use Rattle.std.proofs.Common.{rules, tests}
use Rattle.queue_steps.proofs.steps.ring.following.next_pop.Goals as goal

pub returns-in-Taking-Found : goal.returns-in-Taking-Found
returns-in-Taking-Found g c = search (rules, tests)
