use Rattle.std.proofs.Common.{ℕ, ◌<◌, map}
use Rattle.machine_explore.specs.{Waiting.wait_key, Waiting.wait_of, WaitTables.HasWaitsOf}
use Rattle.machine_explore.proofs.check_waits.has_waits_at.Given as goal

abbrev pub invariant-loop-waiter : goal.invariant-loop-waiter
invariant-loop-waiter g l = (p : ℕ) → p < l.waiter → HasWaitsOf l.fn.program.parties.items (map wait_key (map wait_of l.fn.waits)) l.fn.position p
