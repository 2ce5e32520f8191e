use Rattle.std.proofs.Common.{string_bytes}
use Rattle.app_command.proofs.Taking.{TakesTo}
use Rattle.app_command.proofs.replay.take_lines.Given as goal

-- the turns of the lines so far were taken
abbrev pub invariant-loop-index : goal.invariant-loop-index
invariant-loop-index g l = TakesTo l.index l.lines l.fn.run (string_bytes l.fn.text) l.run (string_bytes l.text)
