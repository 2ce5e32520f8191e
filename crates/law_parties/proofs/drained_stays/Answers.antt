use Rattle.law_parties.proofs.Laws.{drained_stays}
use Rattle.law_parties.proofs.drained_stays.Goals as goal

pub returns : goal.returns
returns g c = drained_stays
