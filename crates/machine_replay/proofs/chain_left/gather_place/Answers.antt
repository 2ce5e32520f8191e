use Rattle.std.proofs.Common.{rules}
use Rattle.machine_replay.proofs.chain_left.gather_place.Goals as goal

pub returns-in-Some : goal.returns-in-Some
returns-in-Some g c = search rules
