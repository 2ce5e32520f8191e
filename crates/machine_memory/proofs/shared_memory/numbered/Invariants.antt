use Rattle.std.proofs.Common.{◌≡◌, vec_len, vec_capacity}
use Rattle.queue_laws.specs.Ring.RingOpening.{numbers_below}
use Rattle.machine_memory.proofs.shared_memory.numbered.Given as goal

abbrev pub invariant-loop-number : goal.invariant-loop-number
invariant-loop-number g l =
    record {
      items : l.numbers.items ≡ numbers_below l.number;
      len : vec_len l.numbers ≡ l.number;
      room : vec_capacity l.numbers ≡ l.fn.count;
    }
