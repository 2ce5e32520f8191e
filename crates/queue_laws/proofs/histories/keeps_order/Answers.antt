use Rattle.queue_laws.proofs.History.Keeping.{keeps_order}
use Rattle.queue_laws.proofs.histories.keeps_order.Goals as goal

pub returns : goal.returns
returns g c = keeps_order
