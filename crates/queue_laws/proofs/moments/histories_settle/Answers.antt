use Rattle.queue_laws.proofs.Moment.Histories.{histories_settle}
use Rattle.queue_laws.proofs.moments.histories_settle.Goals as goal

pub returns : goal.returns
returns g c = histories_settle
