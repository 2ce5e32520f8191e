use Rattle.std.specs.Prelude.{◌≡◌}
use Rattle.concurrent_queue.specs.Shared.{IsPartyOf}
use Rattle.example_parties.proofs.send_all.Given as goal

abbrev pub invariant-loop-next : goal.invariant-loop-next
invariant-loop-next g l = IsPartyOf l.party l.fn.queue × (l.party.view.share ≡ l.fn.party.view.share)
