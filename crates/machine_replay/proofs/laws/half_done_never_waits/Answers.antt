use Rattle.machine_replay.proofs.Progress.Unhindered.{half_done_calls}
use Rattle.machine_replay.proofs.laws.half_done_never_waits.Goals as goal

pub returns : goal.returns
returns g c = half_done_calls _
