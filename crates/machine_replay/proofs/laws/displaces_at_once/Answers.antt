use Rattle.machine_replay.proofs.{Traces.AtOnce.displaces_at_once, Replays.SkipsAll.skipped_is_exact}
use Rattle.machine_replay.proofs.laws.displaces_at_once.Goals as goal

pub returns : goal.returns
returns g c = displaces_at_once skipped_is_exact
