use Rattle.machine_replay.proofs.Replays.PeakTold.{peak_told}
use Rattle.machine_replay.proofs.laws.peak_is_of_the_run.Goals as goal

pub returns : goal.returns
returns g c = peak_told
