use Rattle.law_parties.proofs.Laws.{items_are_kept}
use Rattle.law_parties.proofs.items_are_kept.Goals as goal

pub returns : goal.returns
returns g c = items_are_kept
