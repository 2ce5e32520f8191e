use Rattle.std.proofs.Common.{rules}
use Rattle.queue_steps.proofs.steps.chain.each.pushing.needs_no_request.Goals as goal

pub returns-else-is_some : goal.returns-else-is_some
returns-else-is_some g c = search rules
