use Rattle.std.proofs.Common.{◌-◌}
use Rattle.queue_crew.proofs.crew.+run_from.Given as goal

-- the threads that are still to be started
abbrev pub decreases-run_from : goal.decreases-run_from
decreases-run_from g l = l.threads - l.number
