use Rattle.std.proofs.Common.{◌≡◌}
use Rattle.use_shared.specs.Sharing.{Moves, none}
use Rattle.use_shared.proofs.tasks.executor.Executor+W+W+Finished+A.put.Given as goal

-- nothing has come of the tries, and the number is the same
abbrev pub invariant-loop : goal.invariant-loop
invariant-loop g l = Moves g.W.Numbered.number g.W.Numbered.finished_number l.fn.worker l.worker none none × (g.W.Numbered.number l.task ≡ g.W.Numbered.number l.fn.task)
