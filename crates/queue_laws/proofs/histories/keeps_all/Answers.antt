use Rattle.queue_laws.proofs.History.Keeping.{keeps_all}
use Rattle.queue_laws.proofs.histories.keeps_all.Goals as goal

pub returns : goal.returns
returns g c = keeps_all
