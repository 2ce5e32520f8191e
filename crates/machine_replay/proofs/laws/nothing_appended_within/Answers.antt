use Rattle.machine_replay.proofs.Traces.Within.{nothing_appended}
use Rattle.machine_replay.proofs.laws.nothing_appended_within.Goals as goal

pub returns : goal.returns
returns g c = nothing_appended
