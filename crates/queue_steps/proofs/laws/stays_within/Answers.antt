use Rattle.queue_steps.proofs.Keeping.{stays_within}
use Rattle.queue_steps.proofs.laws.stays_within.Goals as goal

pub returns : goal.returns
returns g c = stays_within
