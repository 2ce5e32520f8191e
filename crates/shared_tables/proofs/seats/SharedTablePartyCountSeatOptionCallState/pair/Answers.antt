use Rattle.std.proofs.Common.{rules}
use Rattle.shared_parties.proofs.Crowds.{joins_up}
use Rattle.shared_tables.proofs.Crowds.{joins}
use Rattle.shared_tables.proofs.seats.SharedTablePartyCountSeatOptionCallState.pair.Goals as goal

pub join_seat-requires-clause-may : goal.join_seat-requires-clause-may
join_seat-requires-clause-may g c =
    let s = c.args.first in let o = c.args.second in let r = c.requires in
    let does = joins (g.K.TableKind.layout c.args.self.now.table.shared.key) s.id s.me.0 o.id o.me.0 _ _ (λ n vs k at ne at'. joins_up k s.id o.id s.me.0 o.me.0 at ne at' r.2 r.3) in
    (search rules, does)
