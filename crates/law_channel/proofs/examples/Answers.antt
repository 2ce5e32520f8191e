use Rattle.law_channel.proofs.Short.{examples}
use Rattle.law_channel.proofs.examples.Goals as goal

pub returns : goal.returns
returns c = examples
