use Rattle.machine_replay.proofs.Progress.{AloneRun.calls_alone, AloneCalls.runs_alone}
use Rattle.machine_replay.proofs.laws.calls_alone_reply.Goals as goal

pub returns-clause-lists : goal.returns-clause-lists
returns-clause-lists g c = calls_alone

pub returns-clause-runs : goal.returns-clause-runs
returns-clause-runs g c = runs_alone _
