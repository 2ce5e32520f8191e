use Rattle.std.proofs.Common.{◌≡◌, length}
use Rattle.machine_memory.specs.Room.{HasRoomFor, HasCount}
use Rattle.machine_steps.specs.Machine.{world_of}
use Rattle.machine_replay.proofs.Engine.AllKinds.{InOrder}
use Rattle.machine_replay.proofs.words.machine_after.Given as goal

abbrev pub invariant-loop-event : goal.invariant-loop-event
invariant-loop-event g l =
    record {
      can : (goal.iterator-loop-event g).can_next l.event-iterator;
      finite : (goal.iterator-loop-event g).is_finite l.event-iterator;
      in_order : InOrder l.fn.kind l.fn.parties l.yielded (world_of l.machine);
      kind_is : l.machine.kind ≡ l.fn.kind;
      blocks : HasRoomFor l.machine.memory (length l.event-iterator.rest.items);
      counted : HasCount l.machine.memory;
    }
