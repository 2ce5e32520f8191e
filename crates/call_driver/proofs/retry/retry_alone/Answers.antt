use Rattle.std.proofs.Common.{◌≡◌, suc, ◌+◌, ◌-◌, arith}
use Rattle.queue_steps.specs.declared.sizes.TheConstants.{STEPS_ALONE}
use Rattle.call_driver.proofs.Going.{before}
use Rattle.call_driver.proofs.retry.retry_alone.Goals as goal

pub retry-requires-clause-on_way : goal.retry-requires-clause-on_way
retry-requires-clause-on_way g c =
    let more : STEPS_ALONE - c.loop.counter ≡ suc (STEPS_ALONE - (c.loop.counter + 1)) = omega (arith, c.loop-test.true) in
    let h = c.loop.invariant.going in
    (STEPS_ALONE - (c.loop.counter + 1), (h.0, h.1, rw more at h.2))

pub returns-in-Break : goal.returns-in-Break
returns-in-Break g c = λ call first start.
    let more : STEPS_ALONE - c.loop.counter ≡ suc (STEPS_ALONE - (c.loop.counter + 1)) = omega (arith, c.loop-test.true) in
    c.in-Break.ensures (STEPS_ALONE - (c.loop.counter + 1)) call first (rw more at (c.loop.invariant.goes call first start))

pub loop-preserved : goal.loop-preserved
loop-preserved g c =
    let left = STEPS_ALONE - (c.loop.counter + 1) in
    let more : STEPS_ALONE - c.loop.counter ≡ suc (STEPS_ALONE - (c.loop.counter + 1)) = omega (arith, c.loop-test.true) in
    let h = c.loop.invariant.going in
    record {
      going = (h.0, h.1, before g.M.Site g.met.M.Site.goes_on g.met.M.AloneSite.ends left c.args.kind c.args.call c.args.site.now h.1 h.0 _ _ _ (c.in-Continue.ensures left h.0 h.1 (rw more at h.2)));
      goes = λ call first start. before g.M.Site g.met.M.Site.goes_on g.met.M.AloneSite.ends left c.args.kind c.args.call c.args.site.now first call _ _ _ (c.in-Continue.ensures left call first (rw more at (c.loop.invariant.goes call first start)));
    }
