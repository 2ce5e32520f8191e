use Rattle.history_check.proofs.Orders.{beginnings_are_legal}
use Rattle.history_check.proofs.laws.beginnings_are_legal.Goals as goal

pub returns : goal.returns
returns c = beginnings_are_legal
