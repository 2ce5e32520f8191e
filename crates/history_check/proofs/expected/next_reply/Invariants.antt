use Rattle.std.proofs.Common.{◌≡◌, length}
use Rattle.history_check.specs.Levels.{next_reply}
use Rattle.history_check.proofs.expected.next_reply.Given as goal

abbrev pub invariant-loop-rest : goal.invariant-loop-rest
invariant-loop-rest l = next_reply l.party l.rest ≡ next_reply l.party l.events

abbrev pub decreases-loop-rest : goal.decreases-loop-rest
decreases-loop-rest l = length l.rest
