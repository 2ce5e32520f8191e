use Rattle.std.proofs.Common.{◌≡◌, ℕ, ◌+◌, ◌<◌, ◌≤◌, get_or, length}
use Rattle.std.specs.List.{All}
use Rattle.law_parties.specs.Doings.{takes}
use Rattle.app_threads.proofs.crew.pop_all.Given as goal

-- the party is still the queue's, with its share, and what it took so far is counted
abbrev pub invariant-loop : goal.invariant-loop
invariant-loop g l = record {
  queue : l.party.queue ≡ l.fn.party.queue;
  share : l.party.view.share ≡ l.fn.party.view.share;
  complete : length l.counts.items ≡ l.fn.plan.items;
  taken : (x : ℕ) → x < l.fn.plan.items → takes x l.party.view ≡ takes x l.fn.party.view + get_or l.counts.items x 0;
  few : All (λ count. count ≤ l.counter) l.counts.items;
}
