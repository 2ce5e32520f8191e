use Rattle.std.proofs.Common.{◌∙◌, sym, ap, subst}
use Rattle.shared_tables.specs.{SlotTable.slot_table, RingTable.ring_table}
use Rattle.concurrent_queue.specs.{declared.party.SeatPlace.SeatPlace, Comes.ComesInto, Shared.QueueId, Shared.PartyView, Shared.IsHeld, Shared.form_id, Shared.party_view_of, Standing.IsSeatOf}
use Rattle.concurrent_queue.proofs.TableCalls.{held_here}
use Rattle.concurrent_queue.proofs.shared.ConcurrentQueue.begin_into.Goals as goal

pub seated-requires : goal.seated-requires
seated-requires g c = record { here = ap (λ (z : PartyView _). z.queue.name) c.party.view_is ∙ ap (λ (z : QueueId). z.name) (c.requires.is_party ∙ sym c.self.view_is) }

pub begin_here-requires-clause-held : goal.begin_here-requires-clause-held
begin_here-requires-clause-held g c =
    let at = subst (IsSeatOf _ _) c.in-Slot.is c.seated.ensures in
    held_here (λ _. slot_table) _ _ c.in-Slot.seat c.args.party at.1 c.party.invariant c.party.view_is (c.requires.is_party ∙ (sym c.self.view_is ∙ ap form_id at.0))

pub begin_here-requires-in-Ring-clause-held : goal.begin_here-requires-in-Ring-clause-held
begin_here-requires-in-Ring-clause-held g c =
    let at = subst (IsSeatOf _ _) c.in-Ring.is c.seated.ensures in
    held_here ring_table _ _ c.in-Ring.seat c.args.party at.1 c.party.invariant c.party.view_is (c.requires.is_party ∙ (sym c.self.view_is ∙ ap form_id at.0))

pub begin_inside-requires-clause-held : goal.begin_inside-requires-clause-held
begin_inside-requires-clause-held g c =
    let at = subst (IsSeatOf _ _) c.in-Chain.is c.seated.ensures in
    let of = ap (λ (z : PartyView _). z.queue) c.party.view_is ∙ (c.requires.is_party ∙ (sym c.self.view_is ∙ ap form_id at.0)) in
    (subst IsHeld at.1 c.party.invariant, ap (λ (p : SeatPlace _). (party_view_of p).queue) (sym at.1) ∙ of)

pub returns-in-Slot : goal.returns-in-Slot
returns-in-Slot g c =
    let at = subst (IsSeatOf _ _) c.in-Slot.is c.seated.ensures in
    subst (λ v. ComesInto v c.args.call c.begin_here.result c.begin_here.new.kept) (ap party_view_of (sym at.1) ∙ c.party.view_is) c.begin_here.ensures

pub returns-in-Ring : goal.returns-in-Ring
returns-in-Ring g c =
    let at = subst (IsSeatOf _ _) c.in-Ring.is c.seated.ensures in
    subst (λ v. ComesInto v c.args.call c.begin_here-in-Ring.result c.begin_here-in-Ring.new.kept) (ap party_view_of (sym at.1) ∙ c.party.view_is) c.begin_here-in-Ring.ensures

pub returns-in-Chain : goal.returns-in-Chain
returns-in-Chain g c =
    let at = subst (IsSeatOf _ _) c.in-Chain.is c.seated.ensures in
    subst (λ v. ComesInto v c.args.call c.begin_inside.result c.begin_inside.new.kept) (ap party_view_of (sym at.1) ∙ c.party.view_is) c.begin_inside.ensures
