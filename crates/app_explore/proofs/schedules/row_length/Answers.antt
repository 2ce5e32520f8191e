use Rattle.std.proofs.Common.{◌≡◌, ◌∙◌, true, false, ap, refl, sym}
use Rattle.machine_explore.specs.Traces.{Seen}
use Rattle.app_explore.specs.Schedules.{ends_call, is_step_of}
use Rattle.app_explore.proofs.Moving.{row_goes_on, row_ends, row_stops, row_past}
use Rattle.app_explore.proofs.schedules.row_length.Goals as goal

pub bounds-moves-index : goal.bounds-moves-index
bounds-moves-index g c = c.loop-index-test.true

pub loop-index-init : goal.loop-index-init
loop-index-init g c = refl

pub loop-index-preserved : goal.loop-index-preserved
loop-index-preserved g c =
    let s : Seen = c.index-moves-index.result in
    let step : is_step_of c.args.party s.event ≡ true = ap (is_step_of c.args.party) (sym c.event.ensures) ∙ sym c.is_step_of.ensures ∙ c.if-not-is_step_of.false in
    let on : ends_call s.told ≡ false = ap ends_call (sym c.told.ensures) ∙ sym c.ends_call.ensures ∙ c.if-ends_call.false in
    c.loop-index.invariant ∙ row_goes_on c.args.party c.loop-index.index c.args.moves.now s c.loop-index-test.true c.index-moves-index.is step on

pub returns-then-ends_call : goal.returns-then-ends_call
returns-then-ends_call g c =
    let s : Seen = c.index-moves-index.result in
    let step : is_step_of c.args.party s.event ≡ true = ap (is_step_of c.args.party) (sym c.event.ensures) ∙ sym c.is_step_of.ensures ∙ c.if-not-is_step_of.false in
    let ends : ends_call s.told ≡ true = ap ends_call (sym c.told.ensures) ∙ sym c.ends_call.ensures ∙ c.if-ends_call.true in
    sym (c.loop-index.invariant ∙ row_ends c.args.party c.loop-index.index c.args.moves.now s c.loop-index-test.true c.index-moves-index.is step ends)

pub returns-then-not-is_step_of : goal.returns-then-not-is_step_of
returns-then-not-is_step_of g c =
    let s : Seen = c.index-moves-index.result in
    let other : is_step_of c.args.party s.event ≡ false = ap (is_step_of c.args.party) (sym c.event.ensures) ∙ sym c.is_step_of.ensures ∙ c.if-not-is_step_of.true in
    sym (c.loop-index.invariant ∙ row_stops c.args.party c.loop-index.index c.args.moves.now s c.loop-index-test.true c.index-moves-index.is other)

pub returns : goal.returns
returns g c = sym (c.loop-index.invariant ∙ row_past c.args.party c.loop-index.index c.args.moves.now c.loop-index-test.false)
