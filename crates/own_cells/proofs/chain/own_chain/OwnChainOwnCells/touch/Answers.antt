use Rattle.std.proofs.Common.{rules}
use Rattle.own_cells.proofs.chain.own_chain.OwnChainOwnCells.touch.Goals as goal

pub returns-in-Some : goal.returns-in-Some
returns-in-Some g c = search rules
