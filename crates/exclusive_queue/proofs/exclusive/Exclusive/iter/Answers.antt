use Rattle.std.specs.Map.Iter.{deref}
use Rattle.std_collections.proofs.IterRuns.{shows_in_order}
use Rattle.exclusive_queue.proofs.exclusive.Exclusive.iter.Goals as goal

pub returns-clause-runs : goal.returns-clause-runs
returns-clause-runs g c = shows_in_order deref
