use Rattle.machine_explore.proofs.{Rounds.IsAway, Waits.IsOn}
use Rattle.machine_explore.proofs.check_waits.may_go_round.Given as goal

abbrev pub invariant-loop : goal.invariant-loop
invariant-loop g l = IsOn l.fn.position.kind l.fn.position.world l.fn.party l.counter l.later × IsAway l.fn.position.kind l.fn.position.world l.fn.party l.counter
