use Rattle.std.proofs.Common.{rules, tests}
use Rattle.app_text.proofs.streams.Pieces.put_number.Goals as goal

pub returns : goal.returns
returns g c = search (rules, tests)
