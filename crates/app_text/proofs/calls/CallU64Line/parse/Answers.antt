use Rattle.std.proofs.Common.{rules, tests}
use Rattle.app_text.proofs.calls.CallU64Line.parse.Goals as goal

pub returns-in-Some-strip_prefix : goal.returns-in-Some-strip_prefix
returns-in-Some-strip_prefix c = search (rules, tests)
