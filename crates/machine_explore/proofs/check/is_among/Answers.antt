use Rattle.machine_explore.{specs.Reports.outcome_in, proofs.NoOther.contains_as}
use Rattle.machine_explore.proofs.check.is_among.Goals as goal

pub returns-then-is_same : goal.returns-then-is_same
returns-then-is_same g c = λ yes. contains_as outcome_in c.args.outcomes.now c.loop-other.other-index c.other-item.result c.args.outcome.now c.loop-other-test.true c.other-item.is (c.is_same.ensures c.if-is_same.true)
