use Rattle.law_recorded.proofs.Replayed.{replays_are_legal}
use Rattle.law_recorded.proofs.replays_are_legal.Goals as goal

pub returns : goal.returns
returns g c = replays_are_legal
