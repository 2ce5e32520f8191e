use Rattle.test_support.proofs.Closings.{parts}
use Rattle.test_support.proofs.closing.part.Goals as goal

pub split-requires-clause-forks : goal.split-requires-clause-forks
split-requires-clause-forks g c = parts _ _ c.args.seat.now.sitter _ c.requires.2
