use Rattle.event_count.proofs.Sleep.Viewing.{views_agree}
use Rattle.event_count.proofs.wakes.views_agree.Goals as goal

pub returns : goal.returns
returns c = views_agree
