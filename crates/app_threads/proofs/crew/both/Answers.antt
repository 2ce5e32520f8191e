use Rattle.std.proofs.{Common.arith, lemmas.Grind.common_steps}
use Rattle.app_threads.proofs.crew.both.Goals as goal

pub returns : goal.returns
returns g c = grind (arith, common_steps)
