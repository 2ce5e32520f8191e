use Rattle.std.proofs.Common.{◌≡◌, ◌+◌, take, vec_len, vec_capacity}
use Rattle.machine_memory.proofs.blocks.copy.Given as goal

abbrev pub invariant-loop-number : goal.invariant-loop-number
invariant-loop-number g l =
    record {
      items : l.copies.items ≡ take l.number l.fn.blocks.items;
      len : vec_len l.copies ≡ l.number;
      room : vec_capacity l.copies ≡ vec_len l.fn.blocks + 1;
    }
