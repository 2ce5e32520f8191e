use Rattle.std.{specs.List.All, proofs.Common.take}
use Rattle.machine_explore.specs.Tables.{IsInside}
use Rattle.machine_explore.proofs.check.is_closed.Given as goal

abbrev pub invariant-loop-index : goal.invariant-loop-index
invariant-loop-index g l = All (IsInside l.fn.kind l.fn.refuses l.fn.program.parties.items l.fn.table.positions.items) (take l.index l.fn.table.positions.items)
