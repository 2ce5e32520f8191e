use Rattle.std.proofs.Common.{rules}
use Rattle.app_threads.proofs.crew.give_up.Goals as goal

pub returns-clause-quits : goal.returns-clause-quits
returns-clause-quits g c = search rules
