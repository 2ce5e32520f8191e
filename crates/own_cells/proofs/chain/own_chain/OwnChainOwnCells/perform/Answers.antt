use Rattle.std.proofs.Common.{rules}
use Rattle.own_cells.proofs.chain.own_chain.OwnChainOwnCells.perform.Goals as goal

pub returns-in-Exchange-Head-default-default : goal.returns-in-Exchange-Head-default-default
returns-in-Exchange-Head-default-default g c = search rules
