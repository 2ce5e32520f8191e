use Rattle.history_check.proofs.Deciding.{levels_refute}
use Rattle.history_check.proofs.laws.levels_refute.Goals as goal

pub returns : goal.returns
returns c = levels_refute
