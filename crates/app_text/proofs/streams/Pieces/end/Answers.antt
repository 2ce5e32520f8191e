use Rattle.std.proofs.Common.{rules, tests}
use Rattle.app_text.proofs.streams.Pieces.end.Goals as goal

pub returns-clause-written : goal.returns-clause-written
returns-clause-written g c = search (rules, tests)

pub returns-clause-begun : goal.returns-clause-begun
returns-clause-begun g c = search (rules, tests)
