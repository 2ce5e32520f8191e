use Rattle.std.proofs.Common.{sym, ap, subst, ◌∙◌}
use Rattle.concurrent_queue.specs.Shared.{PartyView, Calls, party_view_of}
use Rattle.concurrent_queue.proofs.shared.ConcurrentQueue.answer_wait_free.Goals as goal

pub run-requires-clause-held : goal.run-requires-clause-held
run-requires-clause-held g c = (c.party.invariant, ap (λ (p : PartyView _). p.queue) c.party.view_is ∙ (c.requires.is_party ∙ sym c.self.view_is))

pub invariant_of-party : goal.invariant_of-party
invariant_of-party g c = c.run.ensures.0

pub returns : goal.returns
returns g c = subst (λ v. Calls v c.args.call c.run.result (party_view_of c.run.new.place)) c.party.view_is c.run.ensures.1
