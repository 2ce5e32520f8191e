use Rattle.law_parties.proofs.Laws.{splits_keep_doings}
use Rattle.law_parties.proofs.splits_keep_doings.Goals as goal

pub returns : goal.returns
returns g c = splits_keep_doings
