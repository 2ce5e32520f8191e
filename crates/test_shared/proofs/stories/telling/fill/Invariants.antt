use Rattle.concurrent_queue.specs.Shared.{IsPartyOf}
use Rattle.test_shared.proofs.stories.telling.fill.Given as goal

-- the party is still one of the queue's
abbrev pub invariant-loop-before : goal.invariant-loop-before
invariant-loop-before g l = IsPartyOf l.party l.fn.queue
