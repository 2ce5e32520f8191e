use Rattle.std.proofs.Common.{◌-◌, ◌∙◌, Some, refl, sym, ap, subst}
use Rattle.queue_steps.specs.declared.sizes.TheConstants.{STEPS_ALONE}
use Rattle.shared_parties.specs.Calling.{cap_of}
use Rattle.concurrent_queue.{specs.declared.party.SeatPlace.SeatPlace as place, specs.Shared.Calls, specs.Shared.party_view_of, proofs.TableCalls.ends_here, proofs.Stops.started}
use Rattle.concurrent_queue.proofs.shared.pending.go_on_here.Goals as goal

pub carry_on-requires-clause-left : goal.carry_on-requires-clause-left
carry_on-requires-clause-left g c = let (v, (first, held, is, on)) = c.requires.left in (v.call, first, on)

pub at-requires : goal.at-requires
at-requires g c =
    let q = c.carry_on.new.seat in let t = c.args.table.now.table.shared.table_id in let (v, (first, held, is, on)) = c.requires.left in
    (ends_here (place.Table first) first (cap_of (g.K.TableKind.layout t.slots).calls) t (party_view_of (place.Table first)) refl held.0 refl held.1 q (place.Table q) v.call _ c.in-Break.reply refl refl (c.in-Break.ensures v.call first on)).0

pub returns-in-Break : goal.returns-in-Break
returns-in-Break g c = λ v (first, held, is, on).
    let q = c.carry_on.new.seat in let t = c.args.table.now.table.shared.table_id in let w = party_view_of (place.Table first) in (
      subst (λ p. Calls p v.call c.in-Break.reply c.at.result) is
          (subst (λ p. Calls w v.call c.in-Break.reply p) (sym c.at.ensures)
          (ends_here (place.Table first) first (cap_of (g.K.TableKind.layout t.slots).calls) t w refl held.0 refl held.1 q (place.Table q) v.call _ c.in-Break.reply refl refl (c.in-Break.ensures v.call first on)).1),
      c.requires.none,
    )

pub stopped-requires : goal.stopped-requires
stopped-requires g c =
    let t = c.args.table.now.table.shared.table_id in let (v, (first, held, is, on)) = c.requires.left in let e = c.in-Continue.ensures v.call first on in
    record { stands = (t, c.args.table.now.sized.2, (_, started g.K.TableKind.layout t (STEPS_ALONE - 1) (place.Table first) first c.carry_on.new.seat c.in-Continue.left (party_view_of (place.Table first)) v.call refl held.0 refl held.1 e.0.0.0 e.0.0.1 e.0.1 e.1)) }

pub returns-in-Continue : goal.returns-in-Continue
returns-in-Continue g c = λ v (first, held, is, on).
    let t = c.args.table.now.table.shared.table_id in let e = c.in-Continue.ensures v.call first on in
    c.keep.ensures
    ∙ ap Some
    (c.stopped.ensures t _ (started g.K.TableKind.layout t (STEPS_ALONE - 1) (place.Table first) first c.carry_on.new.seat c.in-Continue.left (party_view_of (place.Table first)) v.call refl held.0 refl held.1 e.0.0.0 e.0.0.1 e.0.1 e.1)
    ∙ (λ i. record { party = is i; call = v.call }))
