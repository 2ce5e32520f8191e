use Rattle.law_parties.proofs.Laws.{whole_did_all}
use Rattle.law_parties.proofs.whole_did_all.Goals as goal

pub returns : goal.returns
returns g c = whole_did_all
