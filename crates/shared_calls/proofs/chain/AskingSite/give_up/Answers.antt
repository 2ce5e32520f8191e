use Rattle.std.proofs.Common.{rules}
use Rattle.shared_calls.proofs.chain.AskingSite.give_up.Goals as goal

pub returns : goal.returns
returns g c = search rules
