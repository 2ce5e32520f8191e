use Rattle.std.proofs.Common.{refl}
use Rattle.std_collections.proofs.IterRuns.{gives_in_order}
use Rattle.exclusive_queue.proofs.exclusive.reading.ExclusiveIntoIterator.into_iter.Goals as goal

pub returns : goal.returns
returns g c = record { into_iter_gives = (refl, gives_in_order) }
