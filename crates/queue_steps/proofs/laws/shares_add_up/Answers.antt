use Rattle.queue_steps.proofs.ShareLaws.{shares_add_up}
use Rattle.queue_steps.proofs.laws.shares_add_up.Goals as goal

pub returns : goal.returns
returns c = shares_add_up
