use Rattle.std.proofs.Common.{◌≡◌, ◌++◌, ◌==◌, [], if◌then◌else◌, string_bytes}
use Rattle.app_explore.specs.Lanes.{columns}
use Rattle.app_explore.proofs.lanes.write_row.Given as goal

abbrev pub invariant-loop-column : goal.invariant-loop-column
invariant-loop-column g l = string_bytes l.text ≡ string_bytes l.fn.text ++ columns l.column l.fn.grid.width (λ q. if q == l.fn.party then l.fn.cell else [])
