use Rattle.machine_replay.proofs.Progress.Unhindered.{silence_is_short}
use Rattle.machine_replay.proofs.laws.silence_is_short.Goals as goal

pub returns : goal.returns
returns g c = silence_is_short _
