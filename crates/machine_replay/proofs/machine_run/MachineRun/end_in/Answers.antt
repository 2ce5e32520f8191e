use Rattle.std.proofs.Common.{arith, refl}
use Rattle.machine_replay.proofs.Engine.MachineRuns.{machine_run-ends, machine_run-room, machine_run-slot}
use Rattle.machine_replay.proofs.machine_run.MachineRun.end_in.Goals as goal

pub left-requires-clause-some : goal.left-requires-clause-some
left-requires-clause-some g c = machine_run-slot c.args.self c.requires.comes

pub left-requires-clause-empty : goal.left-requires-clause-empty
left-requires-clause-empty g c = c.requires.empty

pub left-requires-clause-room : goal.left-requires-clause-room
left-requires-clause-room g c = let fits = machine_run-room c.args.self c.requires.comes in omega (arith, fits, c.requires.room)

pub returns-clause-leaves : goal.returns-clause-leaves
returns-clause-leaves g c = λ k parties es ts. machine_run-ends c.args.self (record { left = c.left.result; peak = c.args.self.peak }) k parties es ts c.left.ensures refl

pub returns-clause-left : goal.returns-clause-left
returns-clause-left g c = c.left.ensures
