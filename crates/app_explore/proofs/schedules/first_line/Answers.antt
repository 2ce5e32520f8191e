use Rattle.std.proofs.Common.{◌≡◌, ◌∙◌, ℕ, ap, ◌<◌, ◌⊎◌, inl, inr}
use Rattle.queue_steps.specs.declared.sizes.TheConstants.{STEPS_ALONE}
use Rattle.app_text.specs.declared.actions.{Action.Action as action, ReplayLine.ReplayLine}
use Rattle.app_explore.specs.Schedules.{party_of, plain_line, row_length}
use Rattle.app_explore.proofs.Moving.{first_is_run, first_is_plain}
use Rattle.app_explore.proofs.schedules.first_line.Goals as goal

pub returns-then-count-le-STEPS_ALONE : goal.returns-then-count-le-STEPS_ALONE
returns-then-count-le-STEPS_ALONE g c =
    let row : c.row_length-count.result ≡ row_length 0 (party_of c.in_ok-first.first.now.event) c.args.moves.now
    = c.row_length-count.ensures ∙ ap (λ p. row_length 0 p c.args.moves.now) (c.party_of-party.ensures ∙ ap party_of c.event-event.ensures) in
    let line : ◌≡◌ {A = ReplayLine} c.line_of.result (record { party = party_of c.in_ok-first.first.now.event; action = action.Run })
    = c.line_of.ensures ∙ ap (λ (p : ℕ). let l : ReplayLine = record { party = p; action = action.Run } in l) (c.party_of-party.ensures ∙ ap party_of c.event-event.ensures) in
    rw line (first_is_run c.args.moves.now c.in_ok-first.first.now c.row_length-count.result c.in_ok-first.ensures.item.3.0 c.in_ok-first.ensures.item.1 row c.if-count-ge2.true c.if-count-le-STEPS_ALONE.true)

pub returns : goal.returns
returns g c =
    let row : c.row_length-count.result ≡ row_length 0 (party_of c.in_ok-first.first.now.event) c.args.moves.now
    = c.row_length-count.ensures ∙ ap (λ p. row_length 0 p c.args.moves.now) (c.party_of-party.ensures ∙ ap party_of c.event-event.ensures) in
    let other : (c.row_length-count.result < 2) ⊎ (STEPS_ALONE < c.row_length-count.result) = elim c.else-count-ge2.either [ inl p ↦ inr p.1 | inr p ↦ inl p ] in
    rw (c.plain_line.ensures ∙ ap plain_line c.event-event.ensures) (first_is_plain c.args.moves.now c.in_ok-first.first.now c.row_length-count.result c.in_ok-first.ensures.item.3.0 c.in_ok-first.ensures.item.1 row other)
