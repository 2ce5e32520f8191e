use Rattle.std.proofs.Common.{◌+◌, refl}
use Rattle.machine_replay.proofs.Engine.MachineRuns.{machine_run-can, machine_run-next}
use Rattle.machine_replay.proofs.machine_run.MachineRun.handle_met.Goals as goal

pub handle_met-handled-requires-clause-can : goal.handle_met-handled-requires-clause-can
handle_met-handled-requires-clause-can g c = machine_run-can c.args.self.now c.requires.comes c.args.event

pub returns-clause-goes_on : goal.returns-clause-goes_on
returns-clause-goes_on g c =
    machine_run-next c.args.self.now (record { machine = c.handle_met-handled.new.self; peak = c.after-self.result; handled = c.args.self.now.handled + 1 }) c.args.event c.handle_met-handled.result.told c.numbers-before.result
    c.handle_met-handled.ensures.handles c.handle_met-handled.ensures.kind c.handle_met-handled.ensures.counted c.numbers-before.ensures c.after-self.ensures refl
