use Rattle.concurrent_queue.specs.Shared.{IsPartyOf}
use Rattle.test_shared.proofs.shared.iterators.swings.Given as goal

-- the party is still one of the queue's
abbrev pub invariant-loop : goal.invariant-loop
invariant-loop g l = IsPartyOf l.party l.fn.queue
