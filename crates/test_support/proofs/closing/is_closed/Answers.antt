use Rattle.test_support.proofs.Closings.{looks}
use Rattle.test_support.proofs.closing.is_closed.Goals as goal

pub load-requires-clause-allows : goal.load-requires-clause-allows
load-requires-clause-allows g c = looks _ _ _ _ c.requires.2
