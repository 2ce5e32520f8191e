use Rattle.std.proofs.Common.{◌≡◌, ◌++◌, codes, replicate, string_bytes}
use Rattle.app_explore.proofs.lanes.write_column.Given as goal

abbrev pub invariant-loop-place : goal.invariant-loop-place
invariant-loop-place g l = string_bytes l.text ≡ string_bytes l.fn.text ++ codes "| " ++ l.fn.cell ++ replicate l._place 32
