use Rattle.std.proofs.Common.{rules, tests}
use Rattle.app_text.proofs.faults.Fault.status.Goals as goal

pub returns-in-Usage : goal.returns-in-Usage
returns-in-Usage c = search (rules, tests)
