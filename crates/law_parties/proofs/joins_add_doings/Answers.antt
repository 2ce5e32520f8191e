use Rattle.law_parties.proofs.Laws.{joins_add_doings}
use Rattle.law_parties.proofs.joins_add_doings.Goals as goal

pub returns : goal.returns
returns g c = joins_add_doings
