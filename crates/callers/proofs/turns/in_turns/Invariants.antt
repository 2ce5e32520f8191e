use Rattle.concurrent_queue.specs.Comes.{Comes}
use Rattle.callers.proofs.turns.in_turns.Given as goal

-- what the first turns came to is what a turn of this call comes to
abbrev pub invariant-loop : goal.invariant-loop
invariant-loop l = Comes l.fn.party l.fn.call l.outcome
