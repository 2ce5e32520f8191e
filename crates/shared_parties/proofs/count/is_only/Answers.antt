use Rattle.shared_parties.proofs.Crowds.{counts_one}
use Rattle.shared_parties.proofs.count.is_only.Goals as goal

pub act-requires-clause-sits : goal.act-requires-clause-sits
act-requires-clause-sits g c =
    c.requires.0

pub act-requires-clause-may : goal.act-requires-clause-may
act-requires-clause-may g c =
    let s = c.args.seat.now in
    λ n vs k at. counts_one k (g.C.PartyCount.id s) (g.C.PartyCount.knows s) at c.requires.1
