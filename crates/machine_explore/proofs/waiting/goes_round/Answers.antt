use Rattle.machine_explore.proofs.Waits.{on_first, on_more, round}
use Rattle.machine_explore.proofs.waiting.goes_round.Goals as goal

pub loop-init : goal.loop-init
loop-init g c = on_first c.args.position.now c.in_ok-later.later c.args.party c.in_ok-later.ensures

pub loop-preserved : goal.loop-preserved
loop-preserved g c =
    let s = c.args.position.now in
    on_more s.kind s.world c.args.party c.loop.counter c.loop.later c.take.new.self c.in_ok-told.told c.loop.invariant c.in_ok-told.ensures.told (c.is_quiet.ensures.yes c.if-not-is_quiet.false) c.in_ok-told.ensures.leads

pub returns-then-is_same : goal.returns-then-is_same
returns-then-is_same g c =
    λ yes.
    let s = c.args.position.now in
    let on = on_more s.kind s.world c.args.party c.loop.counter c.loop.later c.take.new.self c.in_ok-told.told c.loop.invariant c.in_ok-told.ensures.told (c.is_quiet.ensures.yes c.if-not-is_quiet.false) c.in_ok-told.ensures.leads in
    round s c.take.new.self c.args.party c.loop.counter c.loop-test.true on (c.is_same.ensures c.if-is_same.true)
