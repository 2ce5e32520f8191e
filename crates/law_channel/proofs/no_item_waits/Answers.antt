use Rattle.law_channel.proofs.Runs.{no_item_waits}
use Rattle.law_channel.proofs.no_item_waits.Goals as goal

pub returns : goal.returns
returns g c = no_item_waits
