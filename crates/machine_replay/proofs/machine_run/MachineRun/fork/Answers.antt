use Rattle.std.proofs.Common.{refl}
use Rattle.machine_replay.proofs.Engine.MachineRuns.{machine_run-same}
use Rattle.machine_replay.proofs.machine_run.MachineRun.fork.Goals as goal

pub returns-clause-same : goal.returns-clause-same
returns-clause-same g c =
    machine_run-same c.args.self.now (record { machine = c.in_ok-fork.field-0; peak = c.args.self.now.peak; handled = c.args.self.now.handled }) c.in_ok-fork.ensures.kind c.in_ok-fork.ensures.world c.in_ok-fork.ensures.alive refl refl
