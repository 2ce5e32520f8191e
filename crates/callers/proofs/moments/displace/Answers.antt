use Rattle.callers.proofs.Displacing.{displaced}
use Rattle.callers.proofs.moments.displace.Goals as goal

pub returns-in-Ok-clause-once : goal.returns-in-Ok-clause-once
returns-in-Ok-clause-once g c = displaced c.args.queue.now c.args.party.now c.force_push.new.party c.args.value c.in-Ok.out c.requires c.in-Ok.ensures
