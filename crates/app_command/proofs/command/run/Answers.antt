use Rattle.std.proofs.Common.{rules}
use Rattle.app_command.proofs.Asked.{no_mode, Keeps-same}
use Rattle.app_command.proofs.command.run.Goals as goal

pub returns-in-None : goal.returns-in-None
returns-in-None g c = rw c.alone.ensures (no_mode _ c.in-None.ensures, Keeps-same _)

pub returns-in-Script : goal.returns-in-Script
returns-in-Script g c = search rules

pub returns-in-Replay : goal.returns-in-Replay
returns-in-Replay g c = search rules
