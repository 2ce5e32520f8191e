use Rattle.machine_replay.proofs.Progress.Unhindered.{unhindered_calls}
use Rattle.machine_replay.proofs.laws.unhindered_calls_reply.Goals as goal

pub returns : goal.returns
returns g c = unhindered_calls
