use Rattle.app_explore.proofs.Tallies.{joined, joined_two}
use Rattle.app_explore.proofs.tails.write_last.Goals as goal

pub returns : goal.returns
returns g c = joined _ _ _ _ _ _ _ _ (joined_two _ _ _ _ _ c.in_ok-write_outcomes.ensures c.in_ok-write_schedules.ensures) c.in_ok-write_alone.ensures c.write_unordered.ensures
