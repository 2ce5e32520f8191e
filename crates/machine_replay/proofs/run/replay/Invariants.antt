use Rattle.std.proofs.Common.{◌≡◌, ◌+◌, length}
use Rattle.machine_memory.specs.Room.{HasRoomFor}
use Rattle.machine_replay.{specs.Replays.IsRoomy, proofs.Replays.Noting.Notes}
use Rattle.machine_replay.proofs.run.replay.Given as goal

abbrev pub invariant-loop-event : goal.invariant-loop-event
invariant-loop-event g l =
    record {
      can : (goal.iterator-loop-event g).can_next l.event-iterator;
      finite : (goal.iterator-loop-event g).is_finite l.event-iterator;
      notes : Notes l.fn.kind l.fn.parties l.yielded l.lists l.run;
      handled_is : l.run.handled ≡ l.number;
      number_is : l.number ≡ length l.yielded;
      room : IsRoomy l.lists l.number l.count;
      blocks : HasRoomFor l.run.machine.memory (length l.event-iterator.rest.items);
      to_come : l.number + length l.event-iterator.rest.items ≡ l.count;
      count_is : l.count ≡ length l.fn.events.items;
    }
