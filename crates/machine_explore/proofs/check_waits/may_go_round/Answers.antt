use Rattle.machine_explore.proofs.{Rounds.away_by, Rounds.away_first, Rounds.never_back, Rounds.not_quiet, Waits.on_first, Waits.on_more}
use Rattle.machine_explore.proofs.check_waits.may_go_round.Goals as goal

pub loop-init : goal.loop-init
loop-init g c =
    let s = c.args.position.now in
    (on_first s c.in_ok-later.later c.args.party c.in_ok-later.ensures, away_first s.kind s.world c.args.party)

pub loop-preserved : goal.loop-preserved
loop-preserved g c =
    let s = c.args.position.now in
    let p = c.args.party in
    let n = c.loop.counter in
    let on = on_more s.kind s.world p n c.loop.later c.take.new.self c.in_ok-told.told c.loop.invariant.0 c.in_ok-told.ensures.told (c.is_quiet.ensures.yes c.if-not-is_quiet.false) c.in_ok-told.ensures.leads in
    (on, away_by s.kind s.world p n c.take.new.self c.local-here.result c.local-there.result on c.local-here.ensures c.local-there.ensures (c.stand_apart.ensures c.if-not-stand_apart.false) c.loop.invariant.1)

pub returns-then-not-is_quiet : goal.returns-then-not-is_quiet
returns-then-not-is_quiet g c = λ no round.
    let s = c.args.position.now in
    not_quiet s.kind s.world c.args.party c.loop.counter c.loop.later c.in_ok-told.told c.loop.invariant.0 c.loop.invariant.1 c.in_ok-told.ensures.told (c.is_quiet.ensures.no c.if-not-is_quiet.true) round

pub returns : goal.returns
returns g c = λ no round. let s = c.args.position.now in never_back s.kind s.world c.args.party c.loop.counter c.loop.invariant.1 c.loop-test.false round
