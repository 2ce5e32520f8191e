use Rattle.std.proofs.Common.{◌∙◌}
use Rattle.app_threads.proofs.handshake.part.Goals as goal

pub returns-clause-of : goal.returns-clause-of
returns-clause-of c =
    let one = c.in-Ok.ensures in let two = c.in-Ok-split.ensures in let of = c.requires in
    ((one.0 ∙ of.0, two.0 ∙ of.1), (one.1 ∙ of.0, two.1 ∙ of.1))

pub returns-clause-halves : goal.returns-clause-halves
returns-clause-halves c = let one = c.in-Ok.ensures.2.share in let two = c.in-Ok-split.ensures.2.share in ((one.0, two.0), (one.1, two.1))
