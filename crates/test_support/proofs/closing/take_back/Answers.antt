use Rattle.test_support.proofs.Closings.{returns}
use Rattle.test_support.proofs.closing.take_back.Goals as goal

pub join-requires-clause-merges : goal.join-requires-clause-merges
join-requires-clause-merges g c = returns _ _ c.args.seat.now.sitter _ c.requires.5 _ _
