use Rattle.use_shared.{specs.Sharing.none, proofs.Moving.at_tasks, proofs.Moving.saw_empty}
use Rattle.use_shared.proofs.tasks.executor.Executor+W+W+Finished+A.has_no_task.Goals as goal

pub returns : goal.returns
returns g c = at_tasks g.W.Numbered.number g.W.Numbered.finished_number c.args.worker.now c.is_empty.new.party none none (saw_empty g.W.Numbered.number c.args.worker.now.tasks c.is_empty.new.party c.is_empty.result c.show_view.ensures c.is_empty.ensures)
