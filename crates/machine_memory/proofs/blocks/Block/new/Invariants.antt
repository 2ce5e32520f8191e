use Rattle.std.proofs.Common.{◌≡◌, replicate, vec_len, vec_capacity}
use Rattle.queue_steps.specs.declared.sizes.TheConstants.{BLOCK_SLOTS}
use Rattle.machine_memory.specs.Blocks.{blank}
use Rattle.machine_memory.proofs.blocks.Block.new.Given as goal

abbrev pub invariant-loop : goal.invariant-loop
invariant-loop g l =
    record {
      items : l.places.items ≡ replicate l.counter blank;
      len : vec_len l.places ≡ l.counter;
      room : vec_capacity l.places ≡ BLOCK_SLOTS;
    }
