use Rattle.std.proofs.Common.{rules}
use Rattle.shared_parties.proofs.Crowds.{splits_apart}
use Rattle.shared_tables.proofs.Crowds.{splits}
use Rattle.shared_tables.proofs.seats.SharedTablePartyCountSeatOptionCallState.part.Goals as goal

pub split_seat-second-requires-clause-may : goal.split_seat-second-requires-clause-may
split_seat-second-requires-clause-may g c =
    let s = c.args.seat in let two = c.requires.1 in
    (search rules, splits (g.K.TableKind.layout c.args.self.now.table.shared.key) s.id s.me.0 _ _ (λ n vs k at. splits_apart k s.id s.me.0 at two.0 two.1 two.2))
