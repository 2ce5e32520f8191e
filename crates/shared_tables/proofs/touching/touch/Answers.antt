use Rattle.std.proofs.Common.{rules}
use Rattle.shared_tables.proofs.touching.touch.Goals as goal

pub returns-in-None : goal.returns-in-None
returns-in-None g c = search rules
