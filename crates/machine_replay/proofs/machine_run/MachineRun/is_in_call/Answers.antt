use Rattle.std.proofs.Common.{sym, ◌∙◌}
use Rattle.machine_replay.proofs.{Replays.CallsTold.machine_run-call, Engine.MachineRuns.machine_run-skip, Engine.MachineRuns.none-there}
use Rattle.machine_replay.proofs.machine_run.MachineRun.is_in_call.Goals as goal

pub returns-clause-exact : goal.returns-clause-exact
returns-clause-exact g c = let is = rw c.deref.ensures.value at c.is_calling.ensures in machine_run-call c.args.self.now c.args.party c.is_calling.result is

pub returns-clause-skips : goal.returns-clause-skips
returns-clause-skips g c none granted = let is = rw c.deref.ensures.value at c.is_calling.ensures in machine_run-skip c.args.self.now c.args.party granted (none-there _ (sym is ∙ none))
