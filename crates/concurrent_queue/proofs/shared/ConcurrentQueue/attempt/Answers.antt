use Rattle.std.proofs.Common.{refl, ◌∙◌, sym, ap, subst}
use Rattle.queue_laws.specs.Chain.ChainEarly.{IsPush}
use Rattle.queue_steps.specs.declared.model.Call.{Call}
use Rattle.shared_tables.specs.{SlotTable.slot_table, RingTable.ring_table}
use Rattle.concurrent_queue.specs.{declared.party.SeatPlace.SeatPlace as place, Shared.QueueId, Shared.form_id, Shared.IsHeld, Shared.party_view_of, Tries.Tries}
use Rattle.concurrent_queue.proofs.{TableCalls.held_here, Told.told_web, Told.tells, Told.tells_where}
use Rattle.concurrent_queue.proofs.shared.ConcurrentQueue.attempt.{Given.Over, Goals.Joined-self, Goals.in-Slot-Table, Goals.in-Ring-Table, Goals.in-Chain-Web}
use Rattle.concurrent_queue.proofs.shared.ConcurrentQueue.attempt.Goals as goal

pub attempt_at-requires-clause-held : goal.attempt_at-requires-clause-held
attempt_at-requires-clause-held g c = let b = c.in-Slot-Table in held_here (λ _. slot_table) b.slot.table.shared.table_id _ b.seat c.args.party.now b.is-1 c.party.invariant c.party.view_is (c.requires.is_party ∙ (sym c.self.view_is ∙ ap form_id b.is-0))

pub attempt_at-requires-in-Ring-Table-clause-held : goal.attempt_at-requires-in-Ring-Table-clause-held
attempt_at-requires-in-Ring-Table-clause-held g c = let b = c.in-Ring-Table in held_here ring_table b.ring.table.shared.table_id _ b.seat c.args.party.now b.is-1 c.party.invariant c.party.view_is (c.requires.is_party ∙ (sym c.self.view_is ∙ ap form_id b.is-0))

pub attempt_in-requires-clause-push : goal.attempt_in-requires-clause-push
attempt_in-requires-clause-push g c = subst (λ (k : Call g.row.T.Denot). IsPush k) (sym c.ask-call.ensures) (c.requires.pushes (ap (λ (z : QueueId). z.cap) (sym c.self.view_is ∙ ap form_id c.in-Chain-Web.is-0)))

pub tell-requires : goal.tell-requires
tell-requires g c = let b = c.in-Chain-Web in
    record {
      told = (
        c.args.party.now,
        _,
        c.args.given,
        subst (λ z. Tries c.args.party.now z c.attempt_in.result (party_view_of (place.Web c.attempt_in.new.party)))
            c.ask-call.ensures (told_web _ (place.Web _) b.rested c.attempt_in.new.party c.args.party.now c.ask-call.result _ _ b.is-1 c.party.invariant
            refl refl c.party.view_is (ap (λ (z : QueueId). z.cap) (c.requires.is_party ∙ (sym c.self.view_is ∙ ap form_id b.is-0))) c.attempt_in.ensures).1,
      );
    }

tries : (g : Over) (c : Joined-self g) → IsHeld c.match-self.party-inside.place × g.W.Attempt.tells c.args.party.now c.args.given c.match-self.result (party_view_of c.match-self.party-inside.place)
tries g c = let v = c.args.party.now in elim c.match-self.branch [
  | in-Slot-Table w ↦ tells_where g.W.Attempt.tells _ (place.Table w.in-Slot-Table.seat) _ (place.Table w.attempt_at.new.seat) v c.args.given _ _ w.in-Slot-Table.is-1 c.party.view_is (ap (λ p. p.place) w.party-inside-is) w.result-is w.attempt_at.ensures
  | in-Ring-Table w ↦ tells_where g.W.Attempt.tells _ (place.Table w.in-Ring-Table.seat) _ (place.Table w.attempt_at-in-Ring-Table.new.seat) v c.args.given _ _ w.in-Ring-Table.is-1 c.party.view_is (ap (λ p. p.place) w.party-inside-is) w.result-is w.attempt_at-in-Ring-Table.ensures
  | in-Chain-Web w ↦ let b = w.in-Chain-Web in let h = told_web _ _ b.rested w.attempt_in.new.party v w.ask-call.result _ _ b.is-1 c.party.invariant
      (ap (λ p. p.place) w.party-inside-is) refl c.party.view_is (ap (λ (z : QueueId). z.cap) (c.requires.is_party ∙ (sym c.self.view_is ∙ ap form_id b.is-0))) w.attempt_in.ensures in
      tells g.W.Attempt.asks g.W.Attempt.tells v _ c.args.given w.ask-call.result w.attempt_in.result _ _ h w.ask-call.ensures w.tell.ensures w.result-is
]

pub invariant_of-party : goal.invariant_of-party
invariant_of-party g c = (tries g c).0

pub returns : goal.returns
returns g c = (tries g c).1
