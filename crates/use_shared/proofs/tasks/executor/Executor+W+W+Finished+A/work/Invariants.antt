use Rattle.use_shared.specs.Sharing.{Moves, none}
use Rattle.use_shared.proofs.tasks.executor.Executor+W+W+Finished+A.work.Given as goal

-- the worker leaves as much as it found
abbrev pub invariant-loop : goal.invariant-loop
invariant-loop g l = Moves g.W.Numbered.number g.W.Numbered.finished_number l.fn.worker l.worker none none
