use Rattle.std.proofs.Common.{◌≡◌, ◌++◌, ◌-◌, vec_capacity}
use Rattle.machine_steps.specs.Left.{gathered}
use Rattle.machine_replay.proofs.left.gather.Given as goal

abbrev pub invariant-loop-position : goal.invariant-loop-position
invariant-loop-position g l =
    record {
      items : l.left.items ++ gathered l.fn.cap l.position (l.fn.end - l.position) l.slots.items ≡ gathered l.fn.cap l.fn.head (l.fn.end - l.fn.head) l.fn.slots.items;
      room : vec_capacity l.left ≡ vec_capacity l.fn.left;
    }
