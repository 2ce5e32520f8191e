use Rattle.concurrent_queue.specs.Shared.{IsPartyOf}
use Rattle.test_run.proofs.crew.push_each.Given as goal

-- the party is still one of the queue's
abbrev pub invariant-loop-item : goal.invariant-loop-item
invariant-loop-item g l = IsPartyOf l.party l.fn.queue
