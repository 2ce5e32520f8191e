use Rattle.std.proofs.Common.{◌≡◌}
use Rattle.use_shared.specs.Work.{Took}
use Rattle.use_shared.proofs.work.take_all.Given as goal

-- the party is still the queue's, with its share, and the jobs that it took are noted
abbrev pub invariant-loop : goal.invariant-loop
invariant-loop g l = record {
  queue : l.party.queue ≡ l.fn.party.queue;
  share : l.party.view.share ≡ l.fn.party.view.share;
  took : Took l.fn.party l.party l.handed.items;
}
