use Rattle.machine_explore.proofs.Waits.{half_more}
use Rattle.machine_explore.proofs.waiting.is_half_done.Goals as goal

pub loop-entry-preserved : goal.loop-entry-preserved
loop-entry-preserved g c = half_more c.args.party c.args.entries.now c.loop-entry.entry-index c.entry-item.result c.loop-entry.is_half c.is_half_after-is_half.result c.loop-entry-test.true c.entry-item.is c.loop-entry.invariant c.is_half_after-is_half.ensures
