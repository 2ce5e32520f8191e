use Rattle.std.proofs.Common.{ℕ, subst, ◌∙◌}
use Rattle.use_shared.specs.Sharing.{Moves, none, one}
use Rattle.use_shared.proofs.Moving.{then, put_in, not_put_in}
use Rattle.use_shared.proofs.tasks.executor.Executor+W+W+Finished+A.put.Goals as goal

pub returns-in-Ok : goal.returns-in-Ok
returns-in-Ok g c =
    let pushed = rw c.in-Ok.is at c.push.ensures in
    put_in g.W.Numbered.number g.W.Numbered.finished_number c.args.worker.now c.loop.worker c.push.new.party (g.W.Numbered.number c.args.task) c.loop.task c.in-Ok.field-0 c.loop.invariant c.show_view.ensures pushed

pub loop-preserved : goal.loop-preserved
loop-preserved g c =
    let back = not_put_in g.W.Numbered.number g.W.Numbered.finished_number c.args.worker.now c.loop.worker c.push.new.party (g.W.Numbered.number c.args.task) c.loop.task c.into_inner.result c.in-Err.why c.loop.invariant c.show_view.ensures c.in-Err.ensures c.into_inner.ensures in
    (back.0, c.in-More.ensures ∙ back.1)

pub returns-in-Done : goal.returns-in-Done
returns-in-Done g c =
    let back = not_put_in g.W.Numbered.number g.W.Numbered.finished_number c.args.worker.now c.loop.worker c.push.new.party (g.W.Numbered.number c.args.task) c.loop.task c.into_inner.result c.in-Err.why c.loop.invariant c.show_view.ensures c.in-Err.ensures c.into_inner.ensures in
    subst {A = ℕ} (λ k. Moves g.W.Numbered.number g.W.Numbered.finished_number c.args.worker.now c.hand_in.new.worker (one k) none) (c.in-Done.ensures ∙ back.1)
    (then g.W.Numbered.number g.W.Numbered.finished_number c.args.worker.now _ c.hand_in.new.worker (one (g.W.Numbered.finished_number c.in-Done.finished)) none back.0 c.hand_in.ensures)

pub hand_in-requires-clause-of : goal.hand_in-requires-clause-of
hand_in-requires-clause-of g c = λ κs outlive. let queues = c.loop.invariant.0.queues in (c.push.ensures.0 ∙ (queues.0 ∙ c.requires.of.0), queues.1 ∙ c.requires.of.1)
