use Rattle.std.proofs.Common.{map}
use Rattle.use_shared.proofs.tasks.run.Given as goal

-- the batch of these tasks
abbrev pub ghosts-run_batch : goal.ghosts-run_batch
ghosts-run_batch g a = record { outcomes = map g.T.Task.outcome a.tasks.items }
