use Rattle.event_count.proofs.Sleep.Runs.{examples}
use Rattle.event_count.proofs.wakes.examples.Goals as goal

pub returns : goal.returns
returns c = examples
