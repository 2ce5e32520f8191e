use Rattle.std.proofs.Common.{◌≡◌, map, take, string_bytes}
use Rattle.app_explore.specs.Lanes.{cell_text}
use Rattle.app_explore.proofs.lanes.cells_of.Given as goal

abbrev pub invariant-loop-entry : goal.invariant-loop-entry
invariant-loop-entry g l = map string_bytes l.cells.items ≡ map cell_text (take l.entry-index l.fn.seen)
