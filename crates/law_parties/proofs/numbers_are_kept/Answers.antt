use Rattle.law_parties.proofs.Laws.{numbers_are_kept}
use Rattle.law_parties.proofs.numbers_are_kept.Goals as goal

pub returns : goal.returns
returns c = numbers_are_kept
