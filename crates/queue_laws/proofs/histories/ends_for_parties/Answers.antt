use Rattle.queue_laws.proofs.History.Closing.{ends_for_parties}
use Rattle.queue_laws.proofs.histories.ends_for_parties.Goals as goal

pub returns : goal.returns
returns g c = ends_for_parties
