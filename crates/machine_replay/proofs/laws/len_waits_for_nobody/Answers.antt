use Rattle.machine_replay.proofs.Progress.LenWaits.{len_waits}
use Rattle.machine_replay.proofs.laws.len_waits_for_nobody.Goals as goal

pub returns : goal.returns
returns g c = len_waits _
