use Rattle.machine_replay.proofs.Traces.TraceRun.{has_history}
use Rattle.machine_replay.proofs.laws.has_history.Goals as goal

pub returns : goal.returns
returns g c = has_history
