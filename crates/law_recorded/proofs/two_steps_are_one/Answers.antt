use Rattle.law_recorded.proofs.Settled.{two_steps_are_one}
use Rattle.law_recorded.proofs.two_steps_are_one.Goals as goal

pub returns : goal.returns
returns c = two_steps_are_one
