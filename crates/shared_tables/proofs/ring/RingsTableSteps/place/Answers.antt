use Rattle.std.proofs.Common.{rules}
use Rattle.shared_tables.proofs.ring.RingsTableSteps.place.Goals as goal

pub returns-in-Tail : goal.returns-in-Tail
returns-in-Tail g c = search rules
