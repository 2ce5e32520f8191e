use Rattle.use_shared.specs.Sharing.{none, one}
use Rattle.use_shared.proofs.Moving.{at_tasks, popped, not_popped, found_none}
use Rattle.use_shared.proofs.tasks.executor.Executor+W+W+Finished+A.take.Goals as goal

pub returns-in-Ok-clause-moved : goal.returns-in-Ok-clause-moved
returns-in-Ok-clause-moved g c =
    let task = c.in-Ok.task in
    at_tasks g.W.Numbered.number g.W.Numbered.finished_number c.args.worker.now c.pop.new.party none (one (g.W.Numbered.number task)) (popped g.W.Numbered.number c.args.worker.now.tasks c.pop.new.party task c.show_view.ensures c.in-Ok.ensures)

pub returns-in-Err-clause-moved : goal.returns-in-Err-clause-moved
returns-in-Err-clause-moved g c =
    at_tasks g.W.Numbered.number g.W.Numbered.finished_number c.args.worker.now c.pop.new.party none none (not_popped g.W.Numbered.number c.args.worker.now.tasks c.pop.new.party c.in-Err.field-0 c.show_view.ensures c.in-Err.ensures)

pub returns-in-Err-clause-last : goal.returns-in-Err-clause-last
returns-in-Err-clause-last g c = found_none c.args.worker.now.tasks c.pop.new.party c.in-Err.field-0 c.in-Err.ensures
