use Rattle.shared_parties.proofs.Crowds.{unites_two}
use Rattle.shared_parties.proofs.Meetings as meeting
use Rattle.shared_parties.proofs.count.join.Goals as goal

pub act-requires-clause-sits : goal.act-requires-clause-sits
act-requires-clause-sits g c =
    c.pair-seat.ensures.0

pub act-requires-clause-may : goal.act-requires-clause-may
act-requires-clause-may g c =
    let d = g.C.PartyCount.knows in let s = c.pair-seat.result in
    λ n vs k at. unites_two k (g.C.PartyCount.id s) (d s) (d c.args.first).known (d c.args.second).known at c.pair-seat.ensures.1

pub returns : goal.returns
returns g c =
    let d = g.C.PartyCount.knows in
    (c.act.ensures.0, meeting.joins (d c.args.first) (d c.args.second) (d c.pair-seat.result) (d c.act.new.seat) c.requires.rest.0 c.pair-seat.ensures.1 c.act.ensures.2)
