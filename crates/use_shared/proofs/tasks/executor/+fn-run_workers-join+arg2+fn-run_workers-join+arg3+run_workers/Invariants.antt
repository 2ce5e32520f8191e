use Rattle.std.proofs.Common.{◌+◌, ◌*◌}
use Rattle.use_shared.proofs.tasks.executor.+fn-run_workers-join+arg2+fn-run_workers-join+arg3+run_workers.Given as goal

-- each half has fewer workers, and the closure stands between the two calls
abbrev pub decreases-join+arg2 : goal.decreases-join+arg2
decreases-join+arg2 g l = 2 * l.half + 1

abbrev pub decreases-join+arg3 : goal.decreases-join+arg3
decreases-join+arg3 g l = 2 * l.rest + 1

abbrev pub decreases-run_workers : goal.decreases-run_workers
decreases-run_workers g l = 2 * l.count
