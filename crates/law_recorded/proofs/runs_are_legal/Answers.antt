use Rattle.law_recorded.proofs.Runs.{runs_are_legal}
use Rattle.law_recorded.proofs.runs_are_legal.Goals as goal

pub returns : goal.returns
returns c = runs_are_legal
