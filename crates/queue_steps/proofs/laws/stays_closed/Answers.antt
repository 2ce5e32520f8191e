use Rattle.queue_steps.proofs.Keeping.{stays_closed}
use Rattle.queue_steps.proofs.laws.stays_closed.Goals as goal

pub returns : goal.returns
returns g c = stays_closed
