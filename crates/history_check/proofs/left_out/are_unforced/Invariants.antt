use Rattle.std.proofs.Common.{ℕ, Some, length}
use Rattle.history_check.specs.LeftOut.{ArePlain}
use Rattle.history_check.proofs.left_out.are_unforced.Given as goal

abbrev pub invariant-loop-event : goal.invariant-loop-event
invariant-loop-event l = (n : ℕ) → ArePlain (Some n) l.rest → ArePlain (Some n) l.fn.events

abbrev pub decreases-loop-event : goal.decreases-loop-event
decreases-loop-event l = length l.rest
