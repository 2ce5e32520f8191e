use Rattle.use_shared.proofs.Moving.{handed_in, not_handed_in}
use Rattle.use_shared.proofs.tasks.executor.Executor+W+W+Finished+A.hand_in.Goals as goal

pub returns-in-Ok : goal.returns-in-Ok
returns-in-Ok g c =
    let pushed = rw c.in-Ok.is at c.push.ensures in
    handed_in g.W.Numbered.number g.W.Numbered.finished_number c.args.worker.now c.loop.worker c.push.new.party (g.W.Numbered.finished_number c.args.finished) c.loop.finished c.in-Ok.field-0 c.loop.invariant c.show_view.ensures pushed

pub loop-preserved : goal.loop-preserved
loop-preserved g c =
    not_handed_in g.W.Numbered.number g.W.Numbered.finished_number c.args.worker.now c.loop.worker c.push.new.party (g.W.Numbered.finished_number c.args.finished)
    c.loop.finished c.into_inner-finished.result c.in-Err.why c.loop.invariant c.show_view.ensures c.in-Err.ensures c.into_inner-finished.ensures
