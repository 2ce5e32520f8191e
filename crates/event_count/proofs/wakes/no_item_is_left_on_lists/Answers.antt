use Rattle.event_count.proofs.Sleep.Listing.{no_item_is_left}
use Rattle.event_count.proofs.wakes.no_item_is_left_on_lists.Goals as goal

pub returns : goal.returns
returns c = no_item_is_left
