use Rattle.std.proofs.Common.{◌≡◌, ◌++◌, take, string_bytes}
use Rattle.app_explore.specs.Lanes.{rows_text}
use Rattle.app_explore.proofs.lanes.write_rows.Given as goal

abbrev pub invariant-loop-index : goal.invariant-loop-index
invariant-loop-index g l = string_bytes l.text ≡ string_bytes l.fn.text ++ rows_text l.fn.grid.parties l.fn.grid.width (take l.index l.fn.seen)
