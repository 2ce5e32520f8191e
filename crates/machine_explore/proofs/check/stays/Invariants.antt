use Rattle.std.proofs.Common.{ℕ, ◌<◌}
use Rattle.machine_explore.specs.{Moves.led, Tables.Stays}
use Rattle.machine_explore.proofs.check.stays.Given as goal

abbrev pub invariant-loop-party : goal.invariant-loop-party
invariant-loop-party g l = (p : ℕ) → p < l.party → Stays (led l.fn.position.kind) l.fn.refuses l.fn.program.parties.items l.fn.table.positions.items l.fn.position p
