use Rattle.std.proofs.Common.{◌-◌, sym, subst}
use Rattle.queue_laws.specs.Common.Vocabulary.{STEPS_ALONE}
use Rattle.call_driver.proofs.Going.{again}
use Rattle.shared_calls.proofs.pausing.carry_through.Goals as goal

pub loop-init : goal.loop-init
loop-init g c = record { going = c.requires.left; goes = λ call first start. start }

pub carry_on-requires-clause-kind : goal.carry_on-requires-clause-kind
carry_on-requires-clause-kind g c =
    let (call, first, on) = c.loop.invariant.going in
    subst g.M.Steps.KindSteps.has_kind (sym on.0.0) (g.met.M.Site.steps_fit c.args.site.now first)

pub carry_on-requires-clause-left : goal.carry_on-requires-clause-left
carry_on-requires-clause-left g c = c.loop.invariant.going

pub returns-in-Break : goal.returns-in-Break
returns-in-Break g c = λ call first start. c.in-Break.ensures call first (c.loop.invariant.goes call first start)

pub loop-preserved : goal.loop-preserved
loop-preserved g c =
    let h = c.loop.invariant.going in let p = c.in-Continue.paused in
    record {
      going = (h.0, h.1, again g.M.Site g.met.M.Site.goes_on g.met.M.Site.more (STEPS_ALONE - 1) p.kind p.call c.args.site.now h.1 h.0 p.progress p.carried _ (c.in-Continue.ensures h.0 h.1 h.2).0);
      goes = λ call first start. again g.M.Site g.met.M.Site.goes_on g.met.M.Site.more (STEPS_ALONE - 1) p.kind p.call c.args.site.now first call p.progress p.carried _ (c.in-Continue.ensures call first (c.loop.invariant.goes call first start)).0;
    }
