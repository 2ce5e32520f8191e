use Rattle.machine_replay.proofs.Replays.OwnersReplay.{owners_replay}
use Rattle.machine_replay.proofs.laws.one_party_is_one_owner.Goals as goal

pub returns : goal.returns
returns g c = owners_replay
