use Rattle.law_parties.proofs.Laws.{closed_stays_seen}
use Rattle.law_parties.proofs.closed_stays_seen.Goals as goal

pub returns : goal.returns
returns g c = closed_stays_seen
