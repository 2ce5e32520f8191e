use Rattle.std.proofs.Common.{rules}
use Rattle.machine_replay.proofs.chain_left.lay.Goals as goal

pub returns : goal.returns
returns g c = search rules
