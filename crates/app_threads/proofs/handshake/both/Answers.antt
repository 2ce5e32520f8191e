use Rattle.std.proofs.Common.{rules}
use Rattle.app_threads.proofs.handshake.both.Goals as goal

pub returns : goal.returns
returns c = search rules
