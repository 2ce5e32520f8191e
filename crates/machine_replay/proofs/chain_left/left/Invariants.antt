use Rattle.std.proofs.Common.{◌≡◌}
use Rattle.machine_steps.specs.ChainLeft.{settled_blocks, settled_front}
use Rattle.machine_replay.proofs.chain_left.left.Given as goal

abbrev pub invariant-loop-call : goal.invariant-loop-call
invariant-loop-call g l =
    record {
      can : (goal.iterator-loop-call g).can_next l.call-iterator;
      finite : (goal.iterator-loop-call g).is_finite l.call-iterator;
      blocks : l.blocks.items ≡ settled_blocks l.yielded l.fn.blocks.items;
      front : l.first ≡ settled_front l.yielded l.fn.first;
    }
