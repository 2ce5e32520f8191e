use Rattle.machine_replay.proofs.Replays.SkipsAll.{skipped_is_exact}
use Rattle.machine_replay.proofs.laws.skipped_is_exact.Goals as goal

pub returns : goal.returns
returns g c = skipped_is_exact
