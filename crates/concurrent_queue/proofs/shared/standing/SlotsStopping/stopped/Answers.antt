use Rattle.std.proofs.Common.{◌∙◌}
use Rattle.shared_tables.specs.SlotTable.{slot_table}
use Rattle.concurrent_queue.proofs.Stops.{go_there}
use Rattle.concurrent_queue.proofs.shared.standing.SlotsStopping.stopped.Goals as goal

pub at-requires : goal.at-requires
at-requires g c = let (t, wide, (v, h)) = c.requires.stands in (go_there (λ _. slot_table) t c.args.seat c.args.left v h).0

pub returns : goal.returns
returns g c = λ t v h. c.at.ensures ∙ (go_there (λ _. slot_table) t c.args.seat c.args.left v h).1
