use Rattle.law_parties.proofs.SeenMore.{saw_more_calls}
use Rattle.law_parties.proofs.saw_more_then_calls.Goals as goal

pub returns : goal.returns
returns g c = saw_more_calls
