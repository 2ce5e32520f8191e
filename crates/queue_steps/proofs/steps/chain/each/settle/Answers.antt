use Rattle.std.proofs.Common.{rules, tests}
use Rattle.queue_steps.proofs.steps.chain.each.settle.Goals as goal

pub returns-then-position-eq-BLOCK_SLOTS : goal.returns-then-position-eq-BLOCK_SLOTS
returns-then-position-eq-BLOCK_SLOTS c = search (rules, tests)
