use Rattle.std.proofs.Common.{◌≡◌, length, take}
use Rattle.machine_memory.proofs.same.all_same.Given as goal

abbrev pub invariant-loop-index : goal.invariant-loop-index
invariant-loop-index g l =
    record {
      same : take l.index l.fn.these ≡ take l.index l.fn.others;
      len : length l.fn.these ≡ length l.fn.others;
    }
