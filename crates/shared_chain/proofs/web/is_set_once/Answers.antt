use Rattle.std.proofs.Common.{rules, tests}
use Rattle.shared_chain.proofs.web.is_set_once.Goals as goal

pub returns-in_default : goal.returns-in_default
returns-in_default g c = search (rules, tests)
