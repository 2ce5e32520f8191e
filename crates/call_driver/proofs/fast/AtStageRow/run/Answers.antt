use Rattle.call_driver.proofs.Going.{again}
use Rattle.call_driver.proofs.fast.AtStageRow.run.Goals as goal

pub run-requires-clause-on_way : goal.run-requires-clause-on_way
run-requires-clause-on_way g c =
    let h = c.requires.on_way in
    (h.0, (h.1.0, h.1.1, again g.M.Site g.met.M.Site.goes_on g.met.M.Site.more h.0 c.args.kind c.args.call c.args.site.now h.1.1 h.1.0 c.in-Continue.after c.passing_step.new.carried c.passing_step.new.seat (c.in-Continue.ensures h.0 h.1.0 h.1.1 h.1.2)))

pub returns-in-Break : goal.returns-in-Break
returns-in-Break g c = λ n call first on. c.in-Break.ensures n call first on

pub returns-in-Continue : goal.returns-in-Continue
returns-in-Continue g c = λ n call first on.
    c.run.ensures n call first
    (again g.M.Site g.met.M.Site.goes_on g.met.M.Site.more n c.args.kind c.args.call c.args.site.now first call c.in-Continue.after c.passing_step.new.carried c.passing_step.new.seat (c.in-Continue.ensures n call first on))
