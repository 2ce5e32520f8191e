use Rattle.std.proofs.Common.{rules, ap, subst, ◌∙◌, sym}
use Rattle.queue_steps.specs.declared.model.Call.{Call as call}
use Rattle.concurrent_queue.specs.Shared.{QueueId, form_id, IsHeld, Calls, party_view_of}
use Rattle.concurrent_queue.proofs.{PartyViews.pop_reply, WebParties.web_ends, TableCalls.begins_here, TableCalls.ends_here}
use Rattle.concurrent_queue.proofs.shared.ConcurrentQueue.pop.{Given.Over, Goals.In-Pop, Goals.in-Slot-Table+in-Break, Goals.in-Slot-Table+in-Continue, Goals.in-Ring-Table+in-Break-begun, Goals.in-Ring-Table+in-Continue-begun, Goals.in-Chain-Web}
use Rattle.concurrent_queue.proofs.shared.ConcurrentQueue.pop.Goals as goal

pub run-begun-requires : goal.run-begun-requires
run-begun-requires g c = let b = c.in-Slot-Table in record { rests = begins_here _ b.seat _ _ c.args.party.now b.is-1 c.party.invariant c.party.view_is (c.requires.is_party ∙ (sym c.self.view_is ∙ ap form_id b.is-0)) }

pub run-begun-requires-in-Ring-Table : goal.run-begun-requires-in-Ring-Table
run-begun-requires-in-Ring-Table g c = let b = c.in-Ring-Table in record { rests = begins_here _ b.seat _ _ c.args.party.now b.is-1 c.party.invariant c.party.view_is (c.requires.is_party ∙ (sym c.self.view_is ∙ ap form_id b.is-0)) }

ends : (g : Over) (c : In-Pop g) → IsHeld c.match-self.party-inside.place × Calls c.args.party.now call.Pop c.match-self.reply (party_view_of c.match-self.party-inside.place)
ends g c = let v = c.args.party.now in let k = call.Pop in elim c.match-self.branch [
  | in-Slot-Table+in-Break w ↦ let b = w.in-Slot-Table in (ends_here _ b.seat _ _ v b.is-1 c.party.invariant c.party.view_is (c.requires.is_party ∙ (sym c.self.view_is ∙ ap form_id b.is-0)) w.run-begun.new.seat _ k _ _ (ap (λ p. p.place) w.party-inside-is) w.reply-is w.in-Break.ensures)
  | in-Slot-Table+in-Continue w ↦ let b = w.in-Slot-Table in
      (ends_here _ b.seat _ _ v b.is-1 c.party.invariant c.party.view_is (c.requires.is_party ∙ (sym c.self.view_is ∙ ap form_id b.is-0)) w.wait_out.new.seat _ k _ _
      (ap (λ p. p.place) w.party-inside-is) w.reply-is (w.wait_out.ensures k b.seat w.in-Continue.ensures))
  | in-Ring-Table+in-Break-begun w ↦ let b = w.in-Ring-Table in
      (ends_here _ b.seat _ _ v b.is-1 c.party.invariant c.party.view_is (c.requires.is_party ∙ (sym c.self.view_is ∙ ap form_id b.is-0))
      w.run-begun-in-Ring-Table.new.seat _ k _ _ (ap (λ p. p.place) w.party-inside-is) w.reply-is w.in-Break-begun.ensures)
  | in-Ring-Table+in-Continue-begun w ↦ let b = w.in-Ring-Table in
      (ends_here _ b.seat _ _ v b.is-1 c.party.invariant c.party.view_is (c.requires.is_party ∙ (sym c.self.view_is ∙ ap form_id b.is-0)) w.wait_out-in-Continue-begun.new.seat _
      k _ _ (ap (λ p. p.place) w.party-inside-is) w.reply-is (w.wait_out-in-Continue-begun.ensures k b.seat w.in-Continue-begun.ensures))
  | in-Chain-Web w ↦ let b = w.in-Chain-Web in (web_ends _ _ b.rested w.answer-reply.new.party v k _ _ b.is-1 c.party.invariant (ap (λ p. p.place) w.party-inside-is)
      w.reply-is c.party.view_is (ap (λ (z : QueueId). z.cap) (c.requires.is_party ∙ (sym c.self.view_is ∙ ap form_id b.is-0))) w.answer-reply.ensures)
]

pub invariant_of-party : goal.invariant_of-party
invariant_of-party g c = (ends g c).0

pub returns : goal.returns
returns g c = subst (λ r. Calls c.args.party.now call.Pop r (party_view_of c.match-self.party-inside.place)) c.in-Pop.is (ends g c).1

pub unreachable-requires-in_default-reply : goal.unreachable-requires-in_default-reply
unreachable-requires-in_default-reply g c =
    let v = c.args.party.now in let k = call.Pop in
    let told : Calls v k c.match-self.reply (party_view_of c.match-self.party-inside.place) = elim c.match-self.branch [
      | in-Slot-Table+in-Break w ↦ let b = w.in-Slot-Table in (ends_here _ b.seat _ _ v b.is-1 c.party.invariant c.party.view_is (c.requires.is_party ∙ (sym c.self.view_is ∙ ap form_id b.is-0)) w.run-begun.new.seat _ k _ _ (ap (λ p. p.place) w.party-inside-is) w.reply-is w.in-Break.ensures).1
      | in-Slot-Table+in-Continue w ↦ let b = w.in-Slot-Table in
          (ends_here _ b.seat _ _ v b.is-1 c.party.invariant c.party.view_is (c.requires.is_party ∙ (sym c.self.view_is ∙ ap form_id b.is-0))
          w.wait_out.new.seat _ k _ _ (ap (λ p. p.place) w.party-inside-is) w.reply-is (w.wait_out.ensures k b.seat w.in-Continue.ensures)).1
      | in-Ring-Table+in-Break-begun w ↦ let b = w.in-Ring-Table in
          (ends_here _ b.seat _ _ v b.is-1 c.party.invariant c.party.view_is (c.requires.is_party ∙ (sym c.self.view_is ∙ ap form_id b.is-0))
          w.run-begun-in-Ring-Table.new.seat _ k _ _ (ap (λ p. p.place) w.party-inside-is) w.reply-is w.in-Break-begun.ensures).1
      | in-Ring-Table+in-Continue-begun w ↦ let b = w.in-Ring-Table in (ends_here _ b.seat _ _ v b.is-1 c.party.invariant c.party.view_is
          (c.requires.is_party ∙ (sym c.self.view_is ∙ ap form_id b.is-0)) w.wait_out-in-Continue-begun.new.seat _ k _ _
          (ap (λ p. p.place) w.party-inside-is) w.reply-is (w.wait_out-in-Continue-begun.ensures k b.seat w.in-Continue-begun.ensures)).1
      | in-Chain-Web w ↦ let b = w.in-Chain-Web in (web_ends _ _ b.rested w.answer-reply.new.party v k _ _ b.is-1 c.party.invariant (ap (λ p. p.place) w.party-inside-is)
          w.reply-is c.party.view_is (ap (λ (z : QueueId). z.cap) (c.requires.is_party ∙ (sym c.self.view_is ∙ ap form_id b.is-0))) w.answer-reply.ensures).1
    ] in
    let is = pop_reply _ _ _ told in search rules
