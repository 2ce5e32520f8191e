use Rattle.law_parties.proofs.Laws.{meets_keep_doings}
use Rattle.law_parties.proofs.meets_keep_doings.Goals as goal

pub returns : goal.returns
returns g c = meets_keep_doings
