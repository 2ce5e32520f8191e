use Rattle.std.proofs.Common.{rules}
use Rattle.machine_replay.proofs.chain_left.reach.Goals as goal

pub returns-in-Put-Some : goal.returns-in-Put-Some
returns-in-Put-Some g c = search rules
