use Rattle.std.proofs.Common.{arith}
use Rattle.app_explore.{specs.Listed.listed_tail, proofs.Tallies.counted_more}
use Rattle.app_explore.proofs.listing.count_without_order.Goals as goal

pub loop-outcome-preserved : goal.loop-outcome-preserved
loop-outcome-preserved g c =
    let more = counted_more listed_tail c.args.outcomes.now c.loop-outcome.outcome-index c.outcome-item.result c.loop-outcome-test.true c.outcome-item.is in
    record {
      counted = omega (arith, more, c.loop-outcome.invariant.counted, c.unordered-count.ensures.counted);
      few = omega (arith, c.loop-outcome.invariant.few, c.unordered-count.ensures.few);
    }
