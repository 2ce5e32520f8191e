use Rattle.machine_replay.proofs.Progress.Unhindered.{appends_reply}
use Rattle.machine_replay.proofs.laws.appends_reply.Goals as goal

pub returns : goal.returns
returns g c = appends_reply _
