use Rattle.law_channel.proofs.Runs.{no_room_waits}
use Rattle.law_channel.proofs.no_room_waits.Goals as goal

pub returns : goal.returns
returns g c = no_room_waits
