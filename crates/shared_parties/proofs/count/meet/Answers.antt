use Rattle.shared_parties.proofs.Crowds.{looks_on}
use Rattle.shared_parties.proofs.Meetings as meeting
use Rattle.shared_parties.proofs.count.meet.Goals as goal

pub act-requires-clause-sits : goal.act-requires-clause-sits
act-requires-clause-sits g c =
    c.pair-seat.ensures.0

pub act-requires-clause-may : goal.act-requires-clause-may
act-requires-clause-may g c =
    let d = g.C.PartyCount.knows in let s = c.pair-seat.result in
    λ n vs k at. looks_on k (g.C.PartyCount.id s) (d s) (d c.args.first).known (d c.args.second).known at c.pair-seat.ensures.1

pub returns-clause-met : goal.returns-clause-met
returns-clause-met g c =
    let d = g.C.PartyCount.knows in let r = c.requires.rest in let cut = c.part.ensures in
    meeting.meets (d c.args.first) (d c.args.second) (d c.pair-seat.result) (d c.act.new.seat) (d c.part.result.0) (d c.part.result.1) r.0 r.1 c.pair-seat.ensures.1 c.act.ensures.2 cut.2 cut.3
