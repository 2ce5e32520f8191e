use Rattle.std.proofs.Common.{refl}
use Rattle.test_support.proofs.Closings.{begins}
use Rattle.test_support.proofs.closing.open.Goals as goal

pub share-web-requires : goal.share-web-requires
share-web-requires g c = let made = c.in_ok-hub.ensures in
    begins _ _ _ _ _ _ c.empty-chain.ensures.1 c.lay.ensures.1 c.lay-2.ensures.1 refl refl made.tail.1 made.head.1 made.tail.3
