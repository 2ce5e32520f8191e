use Rattle.event_count.proofs.Sleep.Listing.{nobody_sleeps_through}
use Rattle.event_count.proofs.wakes.nobody_sleeps_through_on_lists.Goals as goal

pub returns : goal.returns
returns c = nobody_sleeps_through
