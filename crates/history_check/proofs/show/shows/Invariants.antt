use Rattle.std.proofs.Common.{drop}
use Rattle.history_check.specs.Legal.{Goes, opening}
use Rattle.history_check.proofs.show.shows.Given as goal

-- what goes on from here goes on from the opening
abbrev pub invariant-loop-next : goal.invariant-loop-next
invariant-loop-next g l = Goes l.stage (drop l.at l.events) (drop l.next-index l.moves) → Goes (opening l.fn.rules l.fn.parties) l.events l.moves
