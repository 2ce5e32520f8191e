use Rattle.history_check.proofs.LeftOut.{values_may_be_left_out}
use Rattle.history_check.proofs.laws.values_may_be_left_out.Goals as goal

pub returns : goal.returns
returns c = values_may_be_left_out
