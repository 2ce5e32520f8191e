use Rattle.law_parties.proofs.Laws.{pops_see_drained}
use Rattle.law_parties.proofs.pops_see_drained.Goals as goal

pub returns : goal.returns
returns g c = pops_see_drained
