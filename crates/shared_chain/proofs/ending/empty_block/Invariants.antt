use Rattle.std.proofs.Common.{◌≡◌, ◌<◌, not}
use Rattle.mem_blocks.specs.Web.{block}
use Rattle.shared_chain.specs.Leftover.{SameBut, Emptied, any_held}
use Rattle.shared_chain.proofs.ending.empty_block.Given as goal

-- the slots so far were emptied, as far as no call has them
abbrev pub invariant-loop-slot : goal.invariant-loop-slot
invariant-loop-slot g l = record {
  heap : l.chain.heap ≡ l.fn.chain.heap;
  same : SameBut l.number l.fn.chain.blocks l.chain.blocks;
  emptied : Emptied (λ j. j < l.slot) l.empty (block l.fn.chain.blocks l.number) (block l.chain.blocks l.number);
  told : l.empty ≡ not (any_held l.taken l.accepted l.first l.slot (block l.fn.chain.blocks l.number));
}
