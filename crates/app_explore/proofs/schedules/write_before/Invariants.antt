use Rattle.std.proofs.Common.{◌≡◌, ◌++◌, take, string_bytes}
use Rattle.app_explore.specs.Schedules.{before_lines, lines_text}
use Rattle.app_explore.proofs.schedules.write_before.Given as goal

-- the lines of the calls so far are written
abbrev pub invariant-loop-call : goal.invariant-loop-call
invariant-loop-call g l = string_bytes l.text ≡ string_bytes l.fn.text ++ lines_text (before_lines (take l.call-index l.before))
