use Rattle.std.{specs.List.All, proofs.Common.map, proofs.Common.take}
use Rattle.machine_explore.specs.{Waiting.wait_key, Waiting.wait_of, WaitTables.HasWaitsAt}
use Rattle.machine_explore.proofs.check_waits.have_waits.Given as goal

abbrev pub invariant-loop-position : goal.invariant-loop-position
invariant-loop-position g l = All (HasWaitsAt l.fn.program.parties.items (map wait_key (map wait_of l.fn.waits))) (take l.position-index l.fn.positions)
