use Rattle.std.proofs.Common.{◌≡◌, None, replicate, vec_len, vec_capacity}
use Rattle.machine_memory.proofs.shared_memory.vacant.Given as goal

abbrev pub invariant-loop : goal.invariant-loop
invariant-loop g l =
    record {
      items : l.places.items ≡ replicate l.counter None;
      len : vec_len l.places ≡ l.counter;
      room : vec_capacity l.places ≡ l.fn.count;
    }
