use Rattle.std.proofs.Common.{refl, ap, ◌∙◌}
use Rattle.concurrent_queue.specs.Shared.{QueueId, form_id}
use Rattle.concurrent_queue.proofs.{TableCalls.begins_here, TableCalls.ends_here, WebParties.web_ends, shared.Form.run.Goals.in-Slot-Table, shared.Form.run.Goals.in-Ring-Table, shared.Form.run.Goals.in-Chain-Web}
use Rattle.concurrent_queue.proofs.shared.Form.run.Goals as goal

pub run-requires-clause-rests : goal.run-requires-clause-rests
run-requires-clause-rests g c = let b = c.in-Slot-Table in begins_here _ b.seat _ _ _ b.is-1 c.requires.held.0 refl (c.requires.held.1 ∙ ap form_id b.is-0)

pub run-requires-in-Ring-Table-clause-rests : goal.run-requires-in-Ring-Table-clause-rests
run-requires-in-Ring-Table-clause-rests g c = let b = c.in-Ring-Table in begins_here _ b.seat _ _ _ b.is-1 c.requires.held.0 refl (c.requires.held.1 ∙ ap form_id b.is-0)

pub returns : goal.returns
returns g c = elim c.match-self.branch [
  | in-Slot-Table w ↦ let b = w.in-Slot-Table in ends_here _ b.seat _ _ _ b.is-1 c.requires.held.0 refl (c.requires.held.1 ∙ ap form_id b.is-0) w.run.new.seat _ _ _ _ w.place-is w.result-is w.run.ensures
  | in-Ring-Table w ↦ let b = w.in-Ring-Table in ends_here _ b.seat _ _ _ b.is-1 c.requires.held.0 refl (c.requires.held.1 ∙ ap form_id b.is-0) w.run-in-Ring-Table.new.seat _ _ _ _ w.place-is w.result-is w.run-in-Ring-Table.ensures
  | in-Chain-Web w ↦ let b = w.in-Chain-Web in web_ends _ _ b.rested w.run_in.new.party _ _ _ _ b.is-1 c.requires.held.0 w.place-is w.result-is refl (ap (λ (z : QueueId). z.cap) (c.requires.held.1 ∙ ap form_id b.is-0)) w.run_in.ensures
]
