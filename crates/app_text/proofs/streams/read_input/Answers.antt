use Rattle.std.proofs.Common.{rules, tests}
use Rattle.app_text.proofs.streams.read_input.Goals as goal

pub returns-in-Ok : goal.returns-in-Ok
returns-in-Ok g c = search (rules, tests)
