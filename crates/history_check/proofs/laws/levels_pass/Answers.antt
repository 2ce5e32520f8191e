use Rattle.history_check.proofs.Spreading.{levels_pass}
use Rattle.history_check.proofs.laws.levels_pass.Goals as goal

pub returns : goal.returns
returns c = levels_pass
