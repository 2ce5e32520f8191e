use Rattle.shared_tables.specs.TableTurns.{call_at}
use Rattle.shared_tables.proofs.table.SharedTableSite.take_step.Given as goal

-- the call whose step is done
abbrev pub ghosts-operate : goal.ghosts-operate
ghosts-operate g a = record { call = call_at a.seat.now.me a.call.now a.local.now a.touched a.op a.left.now }
