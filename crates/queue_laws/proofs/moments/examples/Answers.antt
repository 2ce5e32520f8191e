use Rattle.queue_laws.proofs.Moment.Exemplifying.{examples}
use Rattle.queue_laws.proofs.moments.examples.Goals as goal

pub returns : goal.returns
returns c = examples
