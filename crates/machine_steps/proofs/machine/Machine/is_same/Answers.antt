use Rattle.std.proofs.Common.{rules}
use Rattle.machine_steps.proofs.machine.Machine.is_same.Goals as goal

pub returns-then-is_same-clause-world : goal.returns-then-is_same-clause-world
returns-then-is_same-clause-world g c = search rules
