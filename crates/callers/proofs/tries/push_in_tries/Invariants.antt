use Rattle.concurrent_queue.specs.Shared.{IsPartyOf}
use Rattle.callers.proofs.tries.push_in_tries.Given as goal

-- the party is still one of the queue's
abbrev pub invariant-loop : goal.invariant-loop
invariant-loop l = IsPartyOf l.party l.fn.queue
