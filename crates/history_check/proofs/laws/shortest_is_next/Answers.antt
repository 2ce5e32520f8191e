use Rattle.history_check.proofs.Deciding.{shortest_is_next}
use Rattle.history_check.proofs.laws.shortest_is_next.Goals as goal

pub returns : goal.returns
returns c = shortest_is_next
