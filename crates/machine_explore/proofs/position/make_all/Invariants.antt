use Rattle.std.proofs.Common.{◌≡◌, take}
use Rattle.machine_steps.specs.Machine.{world_of}
use Rattle.machine_replay.specs.MachineRuns.{IsSomeMachineRun}
use Rattle.machine_explore.specs.Starts.{IsPrepared}
use Rattle.machine_explore.proofs.position.make_all.Given as goal

abbrev pub invariant-loop-call : goal.invariant-loop-call
invariant-loop-call g l =
    record {
      comes : IsSomeMachineRun l.run;
      kind : l.run.machine.kind ≡ l.fn.run.machine.kind;
      prepared : IsPrepared l.fn.run.machine.kind (world_of l.fn.run.machine) (take l.call-index l.fn.calls) (world_of l.run.machine);
    }
