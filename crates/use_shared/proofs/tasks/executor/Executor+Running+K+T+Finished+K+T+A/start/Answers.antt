use Rattle.std.proofs.Common.{ℕ, [], ◌∷◌, ◌++◌, ap, sym, subst, ◌∙◌, append_assoc, length-append, arith}
use Rattle.std.specs.Vec.Iter.{into_iter_items}
use Rattle.use_shared.specs.Sharing.{Moves, none, below}
use Rattle.use_shared.proofs.{Moving.one_more, Places.outcome_at, Places.number_below, Places.number_after}
use Rattle.use_shared.proofs.tasks.executor.Executor+Running+K+T+Finished+K+T+A.start.Goals as goal

pub new-requires-clause-of : goal.new-requires-clause-of
new-requires-clause-of g c = λ κs outlive.
    let before = c.loop-task.invariant in
    let came = c.loop-task.yielded in
    let all = ap (λ l. came ++ l) (sym c.in-Some.ensures.steps.0) ∙ before.2 in
    outcome_at g.T.Task.outcome g.K.Batch.outcomes came (into_iter_items c.next.new.self) c.args.tasks.items c.in-Some.task c.loop-task.number all before.3 c.requires.batch

pub put-requires-clause-of : goal.put-requires-clause-of
put-requires-clause-of g c = λ κs outlive. let queues = c.loop-task.invariant.4.queues in (queues.0 ∙ c.requires.of.0, queues.1 ∙ c.requires.of.1)

pub overflow_add-number : goal.overflow_add-number
overflow_add-number g c =
    let before = c.loop-task.invariant in
    let came = c.loop-task.yielded in
    let all = ap (λ l. came ++ l) (sym c.in-Some.ensures.steps.0) ∙ before.2 in
    let fits = number_below came (into_iter_items c.next.new.self) c.args.tasks.items c.in-Some.task c.loop-task.number all before.3 in
    omega (arith, fits, c.args.tasks.ok.0, c.args.tasks.ok.1, c.args.tasks.small)

pub loop-task-preserved : goal.loop-task-preserved
loop-task-preserved g c =
    let before = c.loop-task.invariant in
    let task = c.in-Some.task in (
      tt,
      tt,
      append_assoc c.loop-task.yielded (task ∷ []) _ ∙ (ap (λ l. c.loop-task.yielded ++ l) (sym c.in-Some.ensures.steps.0) ∙ before.2),
      (let longer = length-append c.loop-task.yielded (task ∷ []) in let so_far = before.3 in omega (arith, longer, so_far)),
      one_more (λ t. t.number) (λ d. d.number) c.args.worker.now c.loop-task.worker c.put.new.worker c.loop-task.number c.new.result.number before.4 c.new.ensures c.put.ensures,
    )

pub returns : goal.returns
returns g c =
    let before = c.loop-task.invariant in
    let it = c.loop-task.task-iterator in
    let all = number_after c.loop-task.yielded (into_iter_items it) c.args.tasks.items c.loop-task.number it.rest.len before.2 before.3 it.rest.ok.0 c.in-None.ensures.steps.0 in
    subst {A = ℕ} (λ n. Moves (λ t. t.number) (λ d. d.number) c.args.worker.now c.loop-task.worker (below n) none) all before.4
