use Rattle.law_parties.proofs.Laws.{calls_act}
use Rattle.law_parties.proofs.calls_act.Goals as goal

pub returns : goal.returns
returns g c = calls_act
