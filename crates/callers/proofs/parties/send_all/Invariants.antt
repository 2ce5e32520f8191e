use Rattle.std.specs.Prelude.{◌≡◌}
use Rattle.concurrent_queue.specs.Shared.{IsPartyOf}
use Rattle.callers.proofs.parties.send_all.Given as goal

-- the party is still one of the queue's, and has its share
abbrev pub invariant-loop : goal.invariant-loop
invariant-loop g l = IsPartyOf l.party l.fn.queue × (l.party.view.share ≡ l.fn.party.view.share)
