use Rattle.std.proofs.Common.{◌≡◌}
use Rattle.own_cells.proofs.OneChain.Layings.{Opened}
use Rattle.own_cells.proofs.chain.own_chain.OwnChain.after.Given as goal

-- the slots so far count as read
abbrev pub invariant-loop-slot : goal.invariant-loop-slot
invariant-loop-slot g l = record {
  heap : l.chain.heap ≡ l.alloc;
  opened : Opened l.link.ptr l.slot l.chain.blocks;
}
