use Rattle.std.{specs.List.All, proofs.Common.map, proofs.Common.take}
use Rattle.machine_explore.specs.{Reports.outcome_in, Tables.EndsAmong}
use Rattle.machine_explore.proofs.check.all_end_among.Given as goal

abbrev pub invariant-loop-position : goal.invariant-loop-position
invariant-loop-position g l = All (EndsAmong l.fn.program.parties.items (map outcome_in l.fn.outcomes)) (take l.position-index l.fn.positions)
