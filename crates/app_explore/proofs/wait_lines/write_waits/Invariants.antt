use Rattle.std.proofs.Common.{◌≡◌, ◌++◌, map, take, string_bytes}
use Rattle.app_explore.specs.{Listed.listed_wait, WaitLines.wait_lines}
use Rattle.app_explore.proofs.wait_lines.write_waits.Given as goal

-- the lines so far are written
abbrev pub invariant-loop-index : goal.invariant-loop-index
invariant-loop-index g l = string_bytes l.text ≡ string_bytes l.fn.text ++ wait_lines 1 (map listed_wait (take l.index l.fn.waits))
