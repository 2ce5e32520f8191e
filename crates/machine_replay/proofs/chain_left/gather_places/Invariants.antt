use Rattle.std.proofs.Common.{◌≡◌, ◌++◌, vec_capacity}
use Rattle.machine_steps.specs.ChainLeft.{unread}
use Rattle.machine_replay.proofs.chain_left.gather_places.Given as goal

abbrev pub invariant-loop-place : goal.invariant-loop-place
invariant-loop-place g l =
    record {
      can : (goal.iterator-loop-place g).can_next l.place-iterator;
      finite : (goal.iterator-loop-place g).is_finite l.place-iterator;
      items : l.left.items ++ unread l.place-iterator.rest.items ≡ l.fn.left.items ++ unread l.fn.places.items;
      room : vec_capacity l.left ≡ vec_capacity l.fn.left;
    }
