use Rattle.std.proofs.Common.{◌≡◌, ◌++◌, ◌-◌, length, vec_capacity}
use Rattle.machine_steps.specs.ChainLeft.{chained}
use Rattle.machine_replay.proofs.chain_left.gather_blocks.Given as goal

abbrev pub invariant-loop : goal.invariant-loop
invariant-loop g l =
    record {
      items : l.left.items ++ chained (length l.fn.blocks.items - l.counter) l.blocks.items l.at ≡ chained (length l.fn.blocks.items) l.fn.blocks.items l.fn.front;
      room : vec_capacity l.left ≡ vec_capacity l.fn.left;
    }
