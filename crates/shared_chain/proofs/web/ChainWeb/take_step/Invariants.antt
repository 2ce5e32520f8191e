use Rattle.shared_chain.specs.Turning.{call_at}
use Rattle.shared_chain.proofs.web.ChainWeb.take_step.Given as goal

-- the call whose step is done
abbrev pub ghosts-operate : goal.ghosts-operate
ghosts-operate g a = record { call = call_at a.seat.now.sitter a.call.now a.local.now a.touched a.op a.left.now }
