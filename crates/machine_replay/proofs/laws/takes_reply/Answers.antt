use Rattle.machine_replay.proofs.Progress.Unhindered.{takes_reply}
use Rattle.machine_replay.proofs.laws.takes_reply.Goals as goal

pub returns : goal.returns
returns g c = takes_reply _
