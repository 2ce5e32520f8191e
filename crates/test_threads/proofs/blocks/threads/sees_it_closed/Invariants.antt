use Rattle.mem_blocks.specs.Seats.{Same}
use Rattle.test_support.specs.ClosingRule.{KeepsHand}
use Rattle.test_threads.proofs.blocks.threads.sees_it_closed.Given as goal

-- the seat is the one that it was
abbrev pub invariant-loop : goal.invariant-loop
invariant-loop l = Same l.party l.fn.party × KeepsHand l.fn.party.sitter l.party.sitter
