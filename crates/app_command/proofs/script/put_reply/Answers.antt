use Rattle.std.proofs.Common.{rules}
use Rattle.app_command.proofs.script.put_reply.Goals as goal

pub returns : goal.returns
returns g c = search rules
