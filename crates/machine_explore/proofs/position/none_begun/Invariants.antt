use Rattle.std.proofs.Common.{◌≡◌, replicate, vec_len, vec_capacity}
use Rattle.machine_explore.specs.Positions.{no_progress}
use Rattle.machine_explore.proofs.position.none_begun.Given as goal

abbrev pub invariant-loop : goal.invariant-loop
invariant-loop g l =
    record {
      items : l.parties.items ≡ replicate l.counter no_progress;
      len : vec_len l.parties ≡ l.counter;
      room : vec_capacity l.parties ≡ l.fn.count;
    }
