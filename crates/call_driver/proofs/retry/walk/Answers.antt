use Rattle.call_driver.proofs.Going.{again}
use Rattle.call_driver.proofs.retry.walk.Goals as goal

pub walking_step-requires-in-loop-clause-on_way : goal.walking_step-requires-in-loop-clause-on_way
walking_step-requires-in-loop-clause-on_way g c =
    let h = c.loop.invariant.going in
    (h.0, (h.1, h.2, again g.M.Site g.met.M.Site.goes_on g.met.M.Site.more h.0 c.args.kind c.args.call c.args.site.now h.2 h.1 c.loop.progress c.loop.carried c.loop.seat h.3))

pub returns-in-Break-walking_step : goal.returns-in-Break-walking_step
returns-in-Break-walking_step g c = λ n call first on.
    c.in-Break-walking_step.ensures n call first
    (again g.M.Site g.met.M.Site.goes_on g.met.M.Site.more n c.args.kind c.args.call c.args.site.now first call c.loop.progress c.loop.carried c.loop.seat
    (c.loop.invariant.stood n call first (c.in-Continue.ensures n call first on)))

pub loop-preserved : goal.loop-preserved
loop-preserved g c =
    let h = c.loop.invariant.going in
    record {
      going = (
        h.0,
        h.1,
        h.2,
        c.in-Continue-walking_step.ensures h.0 h.1 h.2
            (again g.M.Site g.met.M.Site.goes_on g.met.M.Site.more h.0 c.args.kind c.args.call c.args.site.now h.2 h.1 c.loop.progress c.loop.carried c.loop.seat h.3),
      );
      stood = λ n call first start.
          c.in-Continue-walking_step.ensures n call first
          (again g.M.Site g.met.M.Site.goes_on g.met.M.Site.more n c.args.kind c.args.call c.args.site.now first call c.loop.progress c.loop.carried c.loop.seat (c.loop.invariant.stood n call first start));
    }
