use Rattle.std.proofs.Common.{rules, tests}
use Rattle.app_text.proofs.ReadCall.{no_plain_call}
use Rattle.app_text.proofs.calls.plain_call.Goals as goal

pub returns-in_default : goal.returns-in_default
returns-in_default c = no_plain_call c.args.line.now c.in_default.ensures.cases.0

pub returns-in-capacity : goal.returns-in-capacity
returns-in-capacity c = search (rules, tests)
