use Rattle.app_threads.proofs.EndWorks.{ended}
use Rattle.app_threads.proofs.ends.end_sending.Goals as goal

pub returns : goal.returns
returns g c = ended c.args.sender.party c.end_sender-party.result.0 c.end_sender-party.result.1 c.show_view.ensures c.end_sender-party.ensures.party
