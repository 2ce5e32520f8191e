use Rattle.std.proofs.Common.{◌≡◌}
use Rattle.machine_steps.specs.Machine.{world_of}
use Rattle.machine_replay.specs.MachineRuns.{IsSomeMachineRun}
use Rattle.machine_explore.proofs.Starting.{IsMaking}
use Rattle.machine_explore.proofs.position.make_alone.Given as goal

abbrev pub invariant-loop : goal.invariant-loop
invariant-loop g l =
    record {
      comes : IsSomeMachineRun l.run;
      kind : l.run.machine.kind ≡ l.fn.run.machine.kind;
      making : IsMaking l.fn.run.machine.kind (world_of l.fn.run.machine) l.fn.call (world_of l.run.machine);
    }
