use Rattle.queue_laws.proofs.History.Closing.{closes_once}
use Rattle.queue_laws.proofs.histories.closes_once.Goals as goal

pub returns : goal.returns
returns g c = closes_once
