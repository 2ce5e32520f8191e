use Rattle.std.proofs.Common.{◌∙◌}
use Rattle.queue_steps.specs.declared.errors.PopError.{PopError as pop}
use Rattle.law_parties.proofs.Drained.{saw_drained}
use Rattle.use_shared.proofs.WorkShifts.{took_one, took_no_more, has_taken}
use Rattle.use_shared.proofs.work.take_all.Goals as goal

pub loop-preserved-in-Ok-push : goal.loop-preserved-in-Ok-push
loop-preserved-in-Ok-push g c =
    let before = c.loop.invariant in
    let popped = rw c.in-Ok.is at c.pop.ensures in
    record {
      queue = popped.0 ∙ before.queue;
      share = popped.1.share ∙ before.share;
      took = took_one c.args.party.now c.loop.party c.pop.new.party c.loop.handed.items c.push.new.self.items c.in-Ok.job c.show_view.ensures before.took popped c.in-Ok-push.ensures.items;
    }

pub loop-preserved : goal.loop-preserved
loop-preserved g c =
    let before = c.loop.invariant in
    let popped = rw c.in-Err-Empty.field-0-is at c.in-Err-Empty.ensures in
    record {
      queue = popped.0 ∙ before.queue;
      share = popped.1.share ∙ before.share;
      took = took_no_more c.args.party.now c.loop.party c.pop.new.party c.loop.handed.items pop.Empty c.show_view.ensures before.took popped;
    }

pub returns-in-Err-Closed-clause-took : goal.returns-in-Err-Closed-clause-took
returns-in-Err-Closed-clause-took g c = λ finished.
    let popped = rw c.in-Err-Closed.field-0-is at c.in-Err-Closed.ensures in
    let took = took_no_more c.args.party.now c.loop.party c.pop.new.party c.loop.handed.items pop.Closed c.show_view.ensures c.loop.invariant.took popped in
    (has_taken c.args.party.now c.pop.new.party c.loop.handed.items c.requires.fresh took, saw_drained c.loop.party c.pop.new.party popped)
