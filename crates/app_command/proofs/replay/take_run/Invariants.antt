use Rattle.std.proofs.Common.{replicate, string_bytes}
use Rattle.app_command.specs.Takes.{Takes}
use Rattle.app_command.proofs.replay.take_run.Given as goal

-- so many turns were taken
abbrev pub invariant-loop : goal.invariant-loop
invariant-loop g l = Takes (replicate l.counter l.turn) l.fn.run (string_bytes l.fn.text) l.run (string_bytes l.text)
