use Rattle.std.proofs.Common.{◌≡◌, map, drop, string_bytes}
use Rattle.app_explore.specs.Lanes.{widest}
use Rattle.app_explore.proofs.lanes.widest.Given as goal

-- what is left to see makes the width no other
abbrev pub invariant-loop-cell : goal.invariant-loop-cell
invariant-loop-cell g l = widest 1 (map string_bytes l.fn.cells) ≡ widest l.width (map string_bytes (drop l.cell-index l.fn.cells))
