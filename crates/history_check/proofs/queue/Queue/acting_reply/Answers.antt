use Rattle.std.proofs.Common.{Some, ap}
use Rattle.history_check.proofs.queue.Queue.acting_reply.Goals as goal

pub returns-in-Push : goal.returns-in-Push
returns-in-Push g c = λ r acts. ap Some (c.acting_push.ensures r (rw c.in-Push.is at acts))

pub returns-in-ForcePush : goal.returns-in-ForcePush
returns-in-ForcePush g c = λ r acts. ap Some (c.acting_force_push.ensures r (rw c.in-ForcePush.is at acts))
