use Rattle.std.proofs.Common.{◌∙◌, sym}
use Rattle.history_check.proofs.level.has_at.Goals as goal

pub returns-in-Some : goal.returns-in-Some
returns-in-Some g c = λ yes. let at = c.in-Some.ensures.lookup.3 in (c.args.place, at.0, sym (c.is_same.ensures yes ∙ at.1 c.args.stage.now))
