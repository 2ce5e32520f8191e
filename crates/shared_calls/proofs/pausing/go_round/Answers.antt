use Rattle.std.proofs.Common.{◌-◌}
use Rattle.queue_laws.specs.Common.Vocabulary.{STEPS_ALONE}
use Rattle.call_driver.proofs.Going.{again}
use Rattle.shared_calls.proofs.Filling.{is_filled, filled_as}
use Rattle.shared_calls.proofs.pausing.go_round.Goals as goal

pub retry-requires-in-loop-clause-on_way : goal.retry-requires-in-loop-clause-on_way
retry-requires-in-loop-clause-on_way g c =
    let h = c.loop.invariant.going in let n = STEPS_ALONE - 1 in
    (n, (h.0, h.1, again g.M.Site g.met.M.Site.goes_on g.met.M.Site.more n c.args.left.kind c.args.left.call c.args.site.now h.1 h.0 c.loop.progress c.loop.carried c.loop.seat h.2))

pub fill-requires-in-Break-retry : goal.fill-requires-in-Break-retry
fill-requires-in-Break-retry g c =
    let h = c.loop.invariant.going in let n = STEPS_ALONE - 1 in
    let told = c.in-Break-retry.ensures n h.0 h.1 (again g.M.Site g.met.M.Site.goes_on g.met.M.Site.more n c.args.left.kind c.args.left.call c.args.site.now h.1 h.0 c.loop.progress c.loop.carried c.loop.seat h.2) in
    record { fits = is_filled c.in-Break-retry.reply c.retry-in-loop.new.carried told.0 told.1 }

pub returns-in-Break-retry : goal.returns-in-Break-retry
returns-in-Break-retry g c = λ call first on.
    let n = STEPS_ALONE - 1 in
    let stood = c.loop.invariant.stood call first (c.in-Continue.ensures n call first on) in
    let told = c.in-Break-retry.ensures n call first (again g.M.Site g.met.M.Site.goes_on g.met.M.Site.more n c.args.left.kind c.args.left.call c.args.site.now first call c.loop.progress c.loop.carried c.loop.seat stood) in
    let same = filled_as c.in-Break-retry.reply c.retry-in-loop.new.carried told.0 told.1 c.fill-in-Break-retry.result c.fill-in-Break-retry.ensures in
    rw same at told.2

pub loop-preserved : goal.loop-preserved
loop-preserved g c =
    let h = c.loop.invariant.going in let n = STEPS_ALONE - 1 in
    record {
      going = (
        h.0,
        h.1,
        c.in-Continue-retry.ensures n h.0 h.1 (again g.M.Site g.met.M.Site.goes_on g.met.M.Site.more n c.args.left.kind c.args.left.call c.args.site.now h.1 h.0 c.loop.progress c.loop.carried c.loop.seat h.2),
      );
      stood = λ call first start.
          c.in-Continue-retry.ensures n call first
          (again g.M.Site g.met.M.Site.goes_on g.met.M.Site.more n c.args.left.kind c.args.left.call c.args.site.now first call c.loop.progress c.loop.carried c.loop.seat (c.loop.invariant.stood call first start));
    }
