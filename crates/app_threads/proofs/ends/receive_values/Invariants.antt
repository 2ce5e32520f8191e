use Rattle.std.proofs.Common.{◌≡◌, true, length}
use Rattle.law_parties.specs.Doings.{takes}
use Rattle.app_threads.specs.Works.{IsWorkOf}
use Rattle.app_threads.proofs.ends.receive_values.Given as goal

-- the receiver is still the channel's, and what it took so far is counted
abbrev pub invariant-loop : goal.invariant-loop
invariant-loop g l = record {
  end : l.receiver.counts ≡ l.fn.receiver.counts;
  complete : length l.counts.items ≡ l.fn.plan.items;
  work : IsWorkOf l.fn.channel.queue l.fn.plan.items l.counter (λ x. takes x l.fn.receiver.party.view) l.fn.receiver.party.view.share (record { party = l.receiver.party; counts = l.counts; done = true });
}
