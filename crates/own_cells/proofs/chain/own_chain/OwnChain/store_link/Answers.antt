use Rattle.std.proofs.Common.{rules}
use Rattle.own_cells.proofs.chain.own_chain.OwnChain.store_link.Goals as goal

pub returns-in-HeadBlock : goal.returns-in-HeadBlock
returns-in-HeadBlock g c = search rules
