use Rattle.std.proofs.Common.{◌∙◌}
use Rattle.use_shared.{specs.Sharing.none, proofs.Moving.then, proofs.Shifts.joined_shift}
use Rattle.use_shared.proofs.tasks.executor.+fn-run_workers-join+arg2+fn-run_workers-join+arg3+run_workers.Goals as goal

pub returns-in-Err : goal.returns-in-Err
returns-in-Err g t c =
    let number = g.W.Numbered.number in let finished = g.W.Numbered.finished_number in let last = c.work-in-Err.result in
    then number finished c.args.worker c.has_no_task.new.worker last none none c.has_no_task.ensures
    (then number finished c.has_no_task.new.worker c.in-Err.worker last none none c.in-Err.ensures c.work-in-Err.ensures.moved)

pub returns-in-Ok : goal.returns-in-Ok
returns-in-Ok g t c =
    let both = c.join-theirs in let number = g.W.Numbered.number in let finished = g.W.Numbered.finished_number in
    then number finished c.args.worker c.has_no_task.new.worker c.join.result none none c.has_no_task.ensures
    (joined_shift number finished c.has_no_task.new.worker c.in-Ok.ours c.in-Ok.theirs both.result.1 both.result.0 c.join.result c.in-Ok.ensures both.ensures.second both.ensures.first c.join.ensures)

pub work-requires-clause-of : goal.work-requires-clause-of
work-requires-clause-of g t c = λ κs outlive. c.requires.of

pub has_no_task-requires-clause-of : goal.has_no_task-requires-clause-of
has_no_task-requires-clause-of g t c = λ κs outlive. c.requires.of

pub split-requires-clause-of : goal.split-requires-clause-of
split-requires-clause-of g t c = λ κs outlive. let looked = c.has_no_task.ensures.queues in (looked.0 ∙ c.requires.of.0, looked.1 ∙ c.requires.of.1)

pub work-requires-in-Err-clause-of : goal.work-requires-in-Err-clause-of
work-requires-in-Err-clause-of g t c = λ κs outlive.
    let looked = c.has_no_task.ensures.queues in let queues = c.in-Err.ensures.queues in
    (queues.0 ∙ (looked.0 ∙ c.requires.of.0), queues.1 ∙ (looked.1 ∙ c.requires.of.1))

pub join-requires-clause-of : goal.join-requires-clause-of
join-requires-clause-of g t c = λ κs outlive.
    let looked = c.has_no_task.ensures.queues in let parts = c.in-Ok.ensures in let both = c.join-theirs.ensures in
    let of_tasks = looked.0 ∙ c.requires.of.0 in let of_outputs = looked.1 ∙ c.requires.of.1 in
    let ours = both.second.queues in let theirs = both.first.queues in (
      (ours.0 ∙ (parts.tasks.0 ∙ of_tasks), ours.1 ∙ (parts.outputs.0 ∙ of_outputs)),
      (theirs.0 ∙ (parts.tasks.1 ∙ of_tasks), theirs.1 ∙ (parts.outputs.1 ∙ of_outputs)),
    )
