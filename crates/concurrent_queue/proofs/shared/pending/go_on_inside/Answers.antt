use Rattle.std.proofs.Common.{rules, ◌∙◌, Some, refl, sym, ap, subst}
use Rattle.shared_chain.specs.Turning.{web_of}
use Rattle.shared_calls.{specs.InWeb.RestsAt, specs.InWeb.EndedAt, proofs.Wakes.rests_ended}
use Rattle.concurrent_queue.specs.{declared.party.SeatPlace.SeatPlace as place, Shared.QueueId, Shared.Calls, Shared.party_view_of}
use Rattle.concurrent_queue.proofs.{StopsIn.started_in, WebParties.web_ends}
use Rattle.concurrent_queue.proofs.shared.pending.go_on_inside.Goals as goal

pub carry_on-requires-clause-left : goal.carry_on-requires-clause-left
carry_on-requires-clause-left g c = let (v, (r, first, held, woke, is, on)) = c.requires.left in (v.call, first, on)

pub rests-requires : goal.rests-requires
rests-requires g c =
    let (v, (r, first, held, woke, is, on)) = c.requires.left in let e = c.in-Break.ensures v.call first on in
    record { free = (e.0.1.0, e.0.1.1) }

pub at-requires : goal.at-requires
at-requires g c =
    let (v, (r, first, held, woke, is, on)) = c.requires.left in let d = c.in-Break.ensures v.call first on in let out = c.rests.ensures in
    let rests : RestsAt (web_of c.args.queue.now.chain) r = search rules in
    let ended : EndedAt r v.call c.in-Break.reply c.rests.result =
    rests_ended r c.rests.result first.seat.sitter c.carry_on.new.seat.seat.sitter v.call c.in-Break.reply woke d.0.1 d.1 out.0 (out.1 ∙ (d.0.0.0 ∙ sym rests.1)) out.2 in
    (web_ends _ (place.Web c.rests.result) r c.rests.result _ v.call _ _ refl held.0 refl refl refl (ap (λ (z : QueueId). z.cap) held.1) ended).0

pub returns-in-Break : goal.returns-in-Break
returns-in-Break g c = λ v (r, first, held, woke, is, on).
    let d = c.in-Break.ensures v.call first on in let out = c.rests.ensures in
    let rests : RestsAt (web_of c.args.queue.now.chain) r = search rules in
    let ended : EndedAt r v.call c.in-Break.reply c.rests.result =
    rests_ended r c.rests.result first.seat.sitter c.carry_on.new.seat.seat.sitter v.call c.in-Break.reply woke d.0.1 d.1 out.0 (out.1 ∙ (d.0.0.0 ∙ sym rests.1)) out.2 in (
      subst (λ p. Calls p v.call c.in-Break.reply c.at.result) is
          (subst (λ p. Calls (party_view_of (place.Web r)) v.call c.in-Break.reply p) (sym c.at.ensures)
          (web_ends _ (place.Web c.rests.result) r c.rests.result _ v.call _ _ refl held.0 refl refl refl (ap (λ (z : QueueId). z.cap) held.1) ended).1),
      c.requires.none,
    )

pub at-requires-in-Continue : goal.at-requires-in-Continue
at-requires-in-Continue g c =
    let (v, (r, first, held, woke, is, on)) = c.requires.left in let e = c.in-Continue.ensures v.call first on in
    (started_in c.args.queue.now.chain r _ first c.carry_on.new.seat c.in-Continue.left _ v.call refl held.0 refl held.1 woke e.0.0.0 e.0.0.1 e.0.1 e.1).1

pub returns-in-Continue : goal.returns-in-Continue
returns-in-Continue g c = λ v (r, first, held, woke, is, on).
    let e = c.in-Continue.ensures v.call first on in
    c.keep.ensures
    ∙ ap Some
    (c.at-in-Continue.ensures
    ∙ ((started_in c.args.queue.now.chain r _ first c.carry_on.new.seat c.in-Continue.left _ v.call refl held.0 refl held.1 woke e.0.0.0 e.0.0.1 e.0.1 e.1).2
    ∙ (λ i. record { party = is i; call = v.call })))
