use Rattle.std.proofs.Common.{rules}
use Rattle.concurrent_queue.proofs.shared.iter.TryIter.next.Goals as goal

pub returns-clause-pops : goal.returns-clause-pops
returns-clause-pops g c = search

pub returns-clause-of : goal.returns-clause-of
returns-clause-of g c = search rules
