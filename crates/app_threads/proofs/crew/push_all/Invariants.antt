use Rattle.std.proofs.Common.{◌≡◌, ℕ}
use Rattle.law_parties.specs.Doings.{takes}
use Rattle.app_threads.proofs.crew.push_all.Given as goal

-- the party is still the queue's, with its share, and has taken nothing
abbrev pub invariant-loop-value : goal.invariant-loop-value
invariant-loop-value g l = record {
  queue : l.party.queue ≡ l.fn.party.queue;
  share : l.party.view.share ≡ l.fn.party.view.share;
  taken : (x : ℕ) → takes x l.party.view ≡ takes x l.fn.party.view;
}
