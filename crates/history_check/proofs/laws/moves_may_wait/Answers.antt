use Rattle.history_check.proofs.Orders.{moves_may_wait}
use Rattle.history_check.proofs.laws.moves_may_wait.Goals as goal

pub returns : goal.returns
returns c = moves_may_wait
