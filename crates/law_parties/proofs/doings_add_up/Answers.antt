use Rattle.law_parties.proofs.Laws.{doings_add_up}
use Rattle.law_parties.proofs.doings_add_up.Goals as goal

pub returns : goal.returns
returns g c = doings_add_up
