use Rattle.std.proofs.Common.{◌≡◌, length}
use Rattle.history_check.specs.Levels.{Expects}
use Rattle.history_check.proofs.expected.expected.Given as goal

abbrev pub invariant-loop-party : goal.invariant-loop-party
invariant-loop-party g l = (length l.replies.items ≡ l.party) × Expects l.replies.items l.events
