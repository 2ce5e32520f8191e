use Rattle.std.proofs.Common.{◌≡◌}
use Rattle.app_threads.proofs.handshake.expect_item.Given as goal

-- the party is still the queue's, with its share
abbrev pub invariant-loop : goal.invariant-loop
invariant-loop g l = (l.party.queue ≡ l.fn.party.queue) × (l.party.view.share ≡ l.fn.party.view.share)
