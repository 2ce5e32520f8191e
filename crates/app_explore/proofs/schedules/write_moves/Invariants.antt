use Rattle.std.proofs.Common.{◌≡◌, ◌++◌, length, string_bytes}
use Rattle.app_explore.specs.Schedules.{move_lines, lines_text}
use Rattle.app_explore.proofs.schedules.write_moves.Given as goal

-- what is written, and the lines of the moves that are left
abbrev pub invariant-loop-line : goal.invariant-loop-line
invariant-loop-line g l = string_bytes l.text ++ lines_text (move_lines 0 l.rest) ≡ string_bytes l.fn.text ++ lines_text (move_lines 0 l.fn.moves)

abbrev pub decreases-loop-line : goal.decreases-loop-line
decreases-loop-line g l = length l.rest
