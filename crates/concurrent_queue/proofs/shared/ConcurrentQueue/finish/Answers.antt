use Rattle.std.proofs.Common.{rules, Some, None, ◌≡◌, ◌∙◌, refl, ap, sym, subst}
use Rattle.atomic_table.specs.Seated.{TableId}
use Rattle.mem_blocks.specs.Laid.{WebId}
use Rattle.queue_steps.specs.{Legal.IsShown, Shares.IsEntire, Effect.after}
use Rattle.shared_parties.specs.{declared.known.CallState.CallState, CallStates.IsResting, CallStates.IsSeatAlone}
use Rattle.concurrent_queue.specs.Shared.{at_table, in_web, name_at, known_at, form_id, IsFreeAt}
use Rattle.concurrent_queue.proofs.PartyViews.{finishes}
use Rattle.concurrent_queue.proofs.shared.ConcurrentQueue.finish.Goals as goal

same_table : (a b : TableId) → at_table a ≡ at_table b → a ≡ b
same_table a b e = cc

same_web : (a b : WebId) → in_web a ≡ in_web b → a ≡ b
same_web a b e = cc

-- a party with all of the share is the only one
is_alone : {T : Type 0} (d e : CallState T) → d ≡ e → IsResting e → IsEntire e.known.share → IsSeatAlone d
is_alone d e is rests entire = subst (λ x. IsSeatAlone x) (sym is) (rests, entire)

pub end_slot-requires-clause-table : goal.end_slot-requires-clause-table
end_slot-requires-clause-table g c =
    let b = c.in-Slot-Table in
    same_table b.seat.table_id b.slot.table.shared.table_id (sym (ap name_at b.is-1) ∙ (c.is_only.ensures.same.0.0 ∙ ap (λ f. (form_id f).name) b.is-0))

pub end_slot-requires-clause-alone : goal.end_slot-requires-clause-alone
end_slot-requires-clause-alone g c =
    let b = c.in-Slot-Table in
    is_alone b.seat.me.0 (known_at c.party.inside.place) (sym (ap known_at b.is-1) ∙ c.is_only.ensures.same.2) c.party.invariant.0.0 c.if-not-is_only.ensures.counted

pub of_slot-requires : goal.of_slot-requires
of_slot-requires g c = c.end_slot.ensures.0

pub end_ring-requires-clause-table : goal.end_ring-requires-clause-table
end_ring-requires-clause-table g c =
    let b = c.in-Ring-Table in
    same_table b.seat.table_id b.ring.table.shared.table_id (sym (ap name_at b.is-1) ∙ (c.is_only.ensures.same.0.0 ∙ ap (λ f. (form_id f).name) b.is-0))

pub end_ring-requires-clause-alone : goal.end_ring-requires-clause-alone
end_ring-requires-clause-alone g c =
    let b = c.in-Ring-Table in
    is_alone b.seat.me.0 (known_at c.party.inside.place) (sym (ap known_at b.is-1) ∙ c.is_only.ensures.same.2) c.party.invariant.0.0 c.if-not-is_only.ensures.counted

pub of_ring-requires : goal.of_ring-requires
of_ring-requires g c = c.end_ring.ensures.0

pub wake-seat-requires : goal.wake-seat-requires
wake-seat-requires g c =
    let b = c.in-Chain-Web in let sits = c.is_only.ensures.same.0 in
    (subst (λ p. IsFreeAt p) b.is-1 sits.1, same_web b.rested.web _ (sym (ap name_at b.is-1) ∙ (sits.0 ∙ ap (λ f. (form_id f).name) b.is-0)))

pub end-requires-clause-of : goal.end-requires-clause-of
end-requires-clause-of g c = c.in-Chain-Web.queue.of

pub end-requires-clause-sits : goal.end-requires-clause-sits
end-requires-clause-sits g c = c.wake-seat.ensures.seat.0

pub end-requires-clause-alone : goal.end-requires-clause-alone
end-requires-clause-alone g c =
    let b = c.in-Chain-Web in
    let known = ap (λ m. m.view) c.wake-seat.ensures.seat.1 ∙ (sym (ap known_at b.is-1) ∙ c.is_only.ensures.same.2) in
    is_alone c.wake-seat.result.sitter.view (known_at c.party.inside.place) known c.party.invariant.0.0 c.if-not-is_only.ensures.counted

pub of_chain-requires : goal.of_chain-requires
of_chain-requires g c = c.end.ensures.0

pub returns-in-Slot-Table : goal.returns-in-Slot-Table
returns-in-Slot-Table g c =
    let one : c.args.party.queue.cap ≡ Some 1 = search rules in
    let p = c.party.inside.place in let b = c.in-Slot-Table in let s = b.seat in
    let same = sym (ap known_at b.is-1) ∙ c.is_only.ensures.same.2 in
    let shown : IsShown c.of_slot.result.queue (after (Some 1) s.me.0.known.seen) = subst (λ z. IsShown z.queue (after (Some 1) s.me.0.known.seen)) (sym c.of_slot.ensures) c.end_slot.ensures.1 in
    finishes (Some 1) c.args.party (name_at p) (known_at p) s.me.0 c.of_slot.result c.party.view_is one same c.if-not-is_only.ensures.counted shown c.end_slot.ensures.2 (λ _. search rules)

pub returns-in-Ring-Table : goal.returns-in-Ring-Table
returns-in-Ring-Table g c =
    let p = c.party.inside.place in let b = c.in-Ring-Table in let s = b.seat in let slots = b.ring.table.shared.table_id.slots in
    let one : c.args.party.queue.cap ≡ Some slots = search rules in
    let same = sym (ap known_at b.is-1) ∙ c.is_only.ensures.same.2 in
    let shown : IsShown c.of_ring.result.queue (after (Some slots) s.me.0.known.seen) = subst (λ z. IsShown z.queue (after (Some slots) s.me.0.known.seen)) (sym c.of_ring.ensures) c.end_ring.ensures.1 in
    finishes (Some slots) c.args.party (name_at p) (known_at p) s.me.0 c.of_ring.result c.party.view_is one same c.if-not-is_only.ensures.counted shown c.end_ring.ensures.2 (λ _. ap (λ z. z.blocks) c.of_ring.ensures)

pub returns-in-Chain-Web : goal.returns-in-Chain-Web
returns-in-Chain-Web g c =
    let none : c.args.party.queue.cap ≡ None = search rules in
    let p = c.party.inside.place in let b = c.in-Chain-Web in let v = c.wake-seat.result.sitter.view in
    let woke : v ≡ b.rested.view = ap (λ m. m.view) c.wake-seat.ensures.seat.1 in
    let same = woke ∙ (sym (ap known_at b.is-1) ∙ c.is_only.ensures.same.2) in
    let shown : IsShown c.of_chain.result.queue (after None v.known.seen) = subst (λ z. IsShown z.queue (after None v.known.seen)) (sym c.of_chain.ensures) c.end.ensures.1 in
    finishes None c.args.party (name_at p) (known_at p) v c.of_chain.result c.party.view_is none same c.if-not-is_only.ensures.counted shown c.end.ensures.2 (λ some. absurd (some refl))
