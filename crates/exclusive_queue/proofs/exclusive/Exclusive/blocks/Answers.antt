use Rattle.std.proofs.Common.{rules}
use Rattle.own_cells.specs.OneChain.Laws.OwnChainSequential.{holds-blocks}
use Rattle.exclusive_queue.proofs.exclusive.Exclusive.blocks.Goals as goal

pub returns-in-Chain-clause-held : goal.returns-in-Chain-clause-held
returns-in-Chain-clause-held g c =
    let idle = rw c.in-Chain.is at c.self.invariant in
    rw (← c.self.view_is, c.in-Chain.is) (holds-blocks c.in-Chain.blocks idle)

pub returns-in-Chain-clause-count : goal.returns-in-Chain-clause-count
returns-in-Chain-clause-count g c = search rules
