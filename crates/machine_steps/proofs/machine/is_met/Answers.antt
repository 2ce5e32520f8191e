use Rattle.std.proofs.Common.{rules}
use Rattle.machine_steps.proofs.machine.is_met.Goals as goal

pub returns-else-ok : goal.returns-else-ok
returns-else-ok c = search rules
