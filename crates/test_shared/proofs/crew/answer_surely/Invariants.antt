use Rattle.test_shared.specs.Outcomes.{IsOf}
use Rattle.test_shared.proofs.crew.answer_surely.Given as goal

-- the call is still one of a party of the queue
abbrev pub invariant-loop : goal.invariant-loop
invariant-loop g l = IsOf l.outcome l.fn.queue
