use Rattle.std.proofs.Common.{◌≡◌, ◌-◌, length}
use Rattle.shared_chain.specs.Leftover.{BlocksLeft, IsHere}
use Rattle.shared_chain.proofs.ending.give_up_blocks.Given as goal

-- the blocks from this one on are as they were
abbrev pub invariant-loop-here : goal.invariant-loop-here
invariant-loop-here g l = record {
  heap : l.chain.heap ≡ l.alloc;
  left : BlocksLeft l.taken l.accepted l.block l.chain.blocks;
  here : IsHere l.block l.here l.chain.blocks;
}

-- each turn goes one block on
abbrev pub decreases-loop-here : goal.decreases-loop-here
decreases-loop-here g l = length l.chain.blocks - l.block
