use Rattle.std.proofs.Common.{rules, tests}
use Rattle.mem_blocks.proofs.block.BlockPtr.get.Goals as goal

pub returns-else-is_unset-clause-none : goal.returns-else-is_unset-clause-none
returns-else-is_unset-clause-none g c = search (rules, tests)
