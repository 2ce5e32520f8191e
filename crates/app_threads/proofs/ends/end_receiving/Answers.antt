use Rattle.app_threads.proofs.EndWorks.{ended}
use Rattle.app_threads.proofs.ends.end_receiving.Goals as goal

pub returns : goal.returns
returns g c = ended c.args.receiver.party c.end_receiver-party.result.0 c.end_receiver-party.result.1 c.show_view.ensures c.end_receiver-party.ensures.party
