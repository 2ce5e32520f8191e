use Rattle.machine_replay.proofs.Progress.Unhindered.{calls_wait}
use Rattle.machine_replay.proofs.laws.calls_wait.Goals as goal

pub returns : goal.returns
returns g c = calls_wait _
