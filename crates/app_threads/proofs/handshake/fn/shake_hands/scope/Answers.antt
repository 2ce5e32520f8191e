use Rattle.std.proofs.Common.{rules}
use Rattle.app_threads.proofs.handshake.fn.shake_hands.scope.Goals as goal

pub returns : goal.returns
returns g c = search rules
