use Rattle.app_text.specs.Streams.{LeavesRest}
use Rattle.app_text.proofs.streams.write_text.Given as goal

-- what is left to be written
abbrev pub invariant-loop : goal.invariant-loop
invariant-loop g l = LeavesRest (g.O.Write.contents l.fn.output) (g.O.Write.contents l.output) l.fn.text l.rest
