use Rattle.std.proofs.Common.{◌≡◌, ◌≤◌, ◌+◌, drop}
use Rattle.machine_memory.specs.Present.{present}
use Rattle.machine_replay.proofs.peaks.present.Given as goal

abbrev pub invariant-loop-place : goal.invariant-loop-place
invariant-loop-place g l =
    record {
      count : l.count + present (drop l.place l.fn.places.items) ≡ present l.fn.places.items;
      few : l.count ≤ l.place;
    }
