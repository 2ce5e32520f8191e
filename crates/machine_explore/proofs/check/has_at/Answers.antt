use Rattle.std.proofs.Common.{◌∙◌, sym}
use Rattle.machine_explore.proofs.check.has_at.Goals as goal

pub returns-in-Some : goal.returns-in-Some
returns-in-Some g c =
    λ yes.
    let at = c.in-Some.ensures.lookup.3 in
    (c.args.place, at.0, sym (c.is_same.ensures yes ∙ at.1 c.args.position.now))
