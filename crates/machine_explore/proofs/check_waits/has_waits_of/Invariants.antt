use Rattle.std.proofs.Common.{ℕ, ◌<◌, map}
use Rattle.std.specs.Prelude.{Contains}
use Rattle.machine_explore.specs.{Waiting.wait_key, Waiting.wait_of, WaitTables.WaitsThere, WaitTables.key_there}
use Rattle.machine_explore.proofs.check_waits.has_waits_of.Given as goal

abbrev pub invariant-loop-other : goal.invariant-loop-other
invariant-loop-other g l = (q : ℕ) → q < l.other → WaitsThere l.fn.program.parties.items l.fn.position l.fn.waiter q → Contains (map wait_key (map wait_of l.fn.waits)) (key_there l.fn.program.parties.items l.fn.position l.fn.waiter q)
