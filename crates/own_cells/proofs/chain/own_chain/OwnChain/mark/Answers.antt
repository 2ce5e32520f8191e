use Rattle.std.proofs.Common.{rules}
use Rattle.own_cells.proofs.chain.own_chain.OwnChain.mark.Goals as goal

pub returns : goal.returns
returns g c = search rules
