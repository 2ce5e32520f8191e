use Rattle.std.proofs.Common.{rules, tests}
use Rattle.app_text.proofs.actions.parse_action.Goals as goal

pub returns-then-eq : goal.returns-then-eq
returns-then-eq c = search (rules, tests)
