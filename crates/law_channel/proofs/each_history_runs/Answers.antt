use Rattle.law_channel.proofs.Histories.{each_history_runs}
use Rattle.law_channel.proofs.each_history_runs.Goals as goal

pub returns : goal.returns
returns g c = each_history_runs
