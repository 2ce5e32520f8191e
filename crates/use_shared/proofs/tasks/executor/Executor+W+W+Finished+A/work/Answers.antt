use Rattle.std.proofs.Common.{◌∙◌}
use Rattle.use_shared.{specs.Sharing.none, proofs.Moving.stepped, proofs.Moving.then}
use Rattle.use_shared.proofs.tasks.executor.Executor+W+W+Finished+A.work.Goals as goal

pub returns-in_default-clause-moved : goal.returns-in_default-clause-moved
returns-in_default-clause-moved g c = then g.W.Numbered.number g.W.Numbered.finished_number c.args.worker c.loop.worker c.take.new.worker none none c.loop.invariant c.in_default.ensures.moved

pub loop-preserved-in-More : goal.loop-preserved-in-More
loop-preserved-in-More g c =
    let task = c.in-Some-take.task in
    stepped g.W.Numbered.number g.W.Numbered.finished_number c.args.worker c.loop.worker c.take.new.worker c.put.new.worker (g.W.Numbered.number task) (g.W.Numbered.number c.in-More.next) c.loop.invariant c.in-Some-take.ensures.moved c.in-More.ensures c.put.ensures

pub loop-preserved : goal.loop-preserved
loop-preserved g c =
    let task = c.in-Some-take.task in
    stepped g.W.Numbered.number g.W.Numbered.finished_number c.args.worker c.loop.worker c.take.new.worker c.hand_in.new.worker (g.W.Numbered.number task) (g.W.Numbered.finished_number c.in-Done.finished) c.loop.invariant c.in-Some-take.ensures.moved c.in-Done.ensures c.hand_in.ensures

pub take-requires-clause-of : goal.take-requires-clause-of
take-requires-clause-of g c = λ κs outlive. let queues = c.loop.invariant.queues in (queues.0 ∙ c.requires.of.0, queues.1 ∙ c.requires.of.1)

pub put-requires-clause-of : goal.put-requires-clause-of
put-requires-clause-of g c = λ κs outlive.
    let queues = c.loop.invariant.queues in let taken = c.in-Some-take.ensures.moved.queues in (taken.0 ∙ (queues.0 ∙ c.requires.of.0), taken.1 ∙ (queues.1 ∙ c.requires.of.1))

pub hand_in-requires-clause-of : goal.hand_in-requires-clause-of
hand_in-requires-clause-of g c = λ κs outlive.
    let queues = c.loop.invariant.queues in let taken = c.in-Some-take.ensures.moved.queues in (taken.0 ∙ (queues.0 ∙ c.requires.of.0), taken.1 ∙ (queues.1 ∙ c.requires.of.1))
