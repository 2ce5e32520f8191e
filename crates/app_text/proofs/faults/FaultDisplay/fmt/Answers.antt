use Rattle.std.proofs.Common.{rules, tests}
use Rattle.app_text.proofs.faults.FaultDisplay.fmt.Goals as goal

pub returns-in-Unreadable-clause-writes : goal.returns-in-Unreadable-clause-writes
returns-in-Unreadable-clause-writes g c = search (rules, tests)
