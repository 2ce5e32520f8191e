use Rattle.std.proofs.Common.{rules}
use Rattle.app_threads.proofs.handshake.expect_item.Goals as goal

pub returns : goal.returns
returns g c = search rules
