use Rattle.shared_parties.proofs.Crowds.{enters, goes_back}
use Rattle.shared_parties.proofs.count.split.Goals as goal

pub act-requires-clause-sits : goal.act-requires-clause-sits
act-requires-clause-sits g c =
    c.requires.0

pub act-requires-clause-may : goal.act-requires-clause-may
act-requires-clause-may g c =
    let s = c.args.party in
    λ n vs k at. enters k (g.C.PartyCount.id s) (g.C.PartyCount.knows s) at c.requires.1.0

pub act-requires-then-act-ge-MAX_PARTIES-clause-sits : goal.act-requires-then-act-ge-MAX_PARTIES-clause-sits
act-requires-then-act-ge-MAX_PARTIES-clause-sits g c =
    c.act.ensures.0

pub act-requires-then-act-ge-MAX_PARTIES-clause-may : goal.act-requires-then-act-ge-MAX_PARTIES-clause-may
act-requires-then-act-ge-MAX_PARTIES-clause-may g c =
    let s = c.act.new.seat in let refused = (c.act.ensures.2.1 c.if-act-ge-MAX_PARTIES.true).0 in
    λ n vs k at. goes_back k (g.C.PartyCount.id s) (g.C.PartyCount.knows s) (g.C.PartyCount.knows c.args.party).known at refused
