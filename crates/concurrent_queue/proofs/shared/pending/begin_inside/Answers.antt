use Rattle.std.proofs.Common.{rules, ◌∙◌, refl, sym, ap, subst}
use Rattle.shared_chain.specs.Turning.{web_of}
use Rattle.shared_calls.{specs.InWeb.RestsAt, specs.InWeb.EndedAt, proofs.Wakes.wakes_free, proofs.Wakes.rests_ended}
use Rattle.concurrent_queue.{specs.declared.party.SeatPlace.SeatPlace as place, specs.Shared.QueueId, specs.Shared.Calls, specs.Shared.party_view_of, proofs.WebParties.web_ends}
use Rattle.concurrent_queue.proofs.shared.pending.begin_inside.Goals as goal

pub run-begun-requires : goal.run-begun-requires
run-begun-requires g c =
    let b = c.args in let s = c.wake-asking.ensures.seat in
    let rests : RestsAt (web_of b.queue.now.chain) b.rested = search rules in
    record { rests = (s.0, wakes_free _ b.rested c.wake-asking.result.seat.sitter rests s.1) }

pub at-requires : goal.at-requires
at-requires g c =
    let b = c.args in let s = c.wake-asking.ensures.seat in let d = c.in-Break.ensures in let out = c.rests.ensures in
    let rests : RestsAt (web_of b.queue.now.chain) b.rested = search rules in
    let ended : EndedAt b.rested b.call c.in-Break.reply c.rests.result =
    rests_ended b.rested c.rests.result c.wake-asking.result.seat.sitter c.run-begun.new.seat.seat.sitter b.call c.in-Break.reply s.1 d.0.1 d.1 out.0 (out.1 ∙ (d.0.0.0 ∙ sym rests.1)) out.2 in
    (web_ends _ (place.Web c.rests.result) b.rested c.rests.result _ b.call _ _ refl c.requires.held.0 refl refl refl (ap (λ (z : QueueId). z.cap) c.requires.held.1) ended).0

pub returns-in-Break : goal.returns-in-Break
returns-in-Break g c =
    let b = c.args in let s = c.wake-asking.ensures.seat in let d = c.in-Break.ensures in let out = c.rests.ensures in
    let rests : RestsAt (web_of b.queue.now.chain) b.rested = search rules in
    let ended : EndedAt b.rested b.call c.in-Break.reply c.rests.result =
    rests_ended b.rested c.rests.result c.wake-asking.result.seat.sitter c.run-begun.new.seat.seat.sitter b.call c.in-Break.reply s.1 d.0.1 d.1 out.0 (out.1 ∙ (d.0.0.0 ∙ sym rests.1)) out.2 in (
      subst (λ p. Calls (party_view_of (place.Web b.rested)) b.call c.in-Break.reply p) (sym c.at.ensures)
          (web_ends _ (place.Web c.rests.result) b.rested c.rests.result _ b.call _ _ refl c.requires.held.0 refl refl refl (ap (λ (z : QueueId). z.cap) c.requires.held.1) ended).1,
      c.requires.none,
    )

pub go_on_inside_apart-requires-clause-left : goal.go_on_inside_apart-requires-clause-left
go_on_inside_apart-requires-clause-left g c =
    let b = c.args in
    (record { party = party_view_of (place.Web b.rested); call = b.call }, (b.rested, c.wake-asking.result, c.requires.held, c.wake-asking.ensures.seat.1, refl, c.in-Continue.ensures))

pub returns : goal.returns
returns g c =
    let b = c.args in
    c.go_on_inside_apart.ensures (record { party = party_view_of (place.Web b.rested); call = b.call }) (b.rested, c.wake-asking.result, c.requires.held, c.wake-asking.ensures.seat.1, refl, c.in-Continue.ensures)
