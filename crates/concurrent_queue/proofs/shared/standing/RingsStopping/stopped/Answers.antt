use Rattle.std.proofs.Common.{◌≤◌, ◌∙◌, sym, subst}
use Rattle.atomic_table.specs.Seated.{TableId}
use Rattle.shared_tables.specs.RingTable.{ring_table}
use Rattle.concurrent_queue.proofs.Stops.{go_there}
use Rattle.concurrent_queue.proofs.shared.standing.RingsStopping.stopped.Goals as goal

pub at-requires : goal.at-requires
at-requires g c = let (t, wide, (v, h)) = c.requires.stands in (subst (λ (z : TableId). 2 ≤ z.slots) (sym h.0) wide, (go_there ring_table t c.args.seat c.args.left v h).0)

pub returns : goal.returns
returns g c = λ t v h. c.at.ensures ∙ (go_there ring_table t c.args.seat c.args.left v h).1
