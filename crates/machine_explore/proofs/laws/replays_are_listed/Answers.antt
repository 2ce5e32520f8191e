use Rattle.machine_explore.proofs.Listing.{replays_are_listed}
use Rattle.machine_explore.proofs.laws.replays_are_listed.Goals as goal

pub returns : goal.returns
returns g c = replays_are_listed
