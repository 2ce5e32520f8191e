use Rattle.std.proofs.Common.{◌≡◌}
use Rattle.machine_steps.specs.Left.{all_written}
use Rattle.machine_replay.proofs.left.settle.Given as goal

abbrev pub invariant-loop-call : goal.invariant-loop-call
invariant-loop-call g l =
    record {
      can : (goal.iterator-loop-call g).can_next l.call-iterator;
      finite : (goal.iterator-loop-call g).is_finite l.call-iterator;
      slots : l.slots.items ≡ all_written l.yielded l.fn.slots.items;
    }
