use Rattle.std.proofs.Common.{rules}
use Rattle.queue_steps.proofs.steps.chain.each.popping.walk_on.Goals as goal

pub returns-else-goes_on : goal.returns-else-goes_on
returns-else-goes_on g c = search rules
