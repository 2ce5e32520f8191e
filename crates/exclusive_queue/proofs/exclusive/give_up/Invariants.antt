use Rattle.std.proofs.Common.{length}
use Rattle.own_cells.specs.OneChain.OwnChainOwned.{IsIdle, own_chain_queue}
use Rattle.exclusive_queue.proofs.exclusive.give_up.Given as goal

abbrev pub invariant-loop-result : goal.invariant-loop-result
invariant-loop-result g l = IsIdle l.blocks

-- each turn takes an item
abbrev pub decreases-loop-result : goal.decreases-loop-result
decreases-loop-result g l = length (own_chain_queue l.blocks).items
