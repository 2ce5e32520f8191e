use Rattle.event_count.proofs.Sleep.Runs.{nobody_sleeps_through}
use Rattle.event_count.proofs.wakes.nobody_sleeps_through.Goals as goal

pub returns : goal.returns
returns c = nobody_sleeps_through
