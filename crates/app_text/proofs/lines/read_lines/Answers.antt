use Rattle.std.proofs.Common.{rules, tests}
use Rattle.app_text.proofs.lines.read_lines.Goals as goal

pub returns-in_default-parse : goal.returns-in_default-parse
returns-in_default-parse g c = search (rules, tests)
