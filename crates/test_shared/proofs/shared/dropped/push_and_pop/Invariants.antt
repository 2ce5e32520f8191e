use Rattle.concurrent_queue.specs.Shared.{IsPartyOf}
use Rattle.test_shared.proofs.shared.dropped.push_and_pop.Given as goal

-- both parties are still the queue's
abbrev pub invariant-loop-number : goal.invariant-loop-number
invariant-loop-number g l = IsPartyOf l.a l.fn.queue × IsPartyOf l.b l.fn.queue

abbrev pub invariant-loop : goal.invariant-loop
invariant-loop g l = IsPartyOf l.a l.fn.queue × IsPartyOf l.b l.fn.queue
