use Rattle.std.proofs.Common.{◌≡◌, ◌++◌, length}
use Rattle.std.specs.Vec.Iter.{into_iter_items}
use Rattle.use_shared.specs.Sharing.{Moves, none, below}
use Rattle.use_shared.proofs.tasks.executor.Executor+Running+K+T+Finished+K+T+A.start.Given as goal

-- so many tasks are in the queue, each with its number
abbrev pub invariant-loop-task : goal.invariant-loop-task
invariant-loop-task g l =
    (goal.iterator-loop-task g).can_next l.task-iterator × (goal.iterator-loop-task g).is_finite l.task-iterator × (l.yielded ++ into_iter_items l.task-iterator ≡ l.fn.tasks.items) × (l.number ≡ length l.yielded)
    × Moves (λ t. t.number) (λ d. d.number) l.fn.worker l.worker (below l.number) none
