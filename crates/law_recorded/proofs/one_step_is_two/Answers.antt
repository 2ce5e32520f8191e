use Rattle.law_recorded.proofs.OneStep.{one_step_is_two}
use Rattle.law_recorded.proofs.one_step_is_two.Goals as goal

pub returns : goal.returns
returns c = one_step_is_two
