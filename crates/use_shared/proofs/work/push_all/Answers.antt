use Rattle.use_shared.proofs.WorkShifts.{append_more}
use Rattle.use_shared.proofs.work.push_all.Goals as goal

pub loop-job-preserved : goal.loop-job-preserved
loop-job-preserved g c =
    let pushed = rw c.in-Ok.is at c.push.ensures in
    append_more c.args.party.now c.loop-job.party c.push.new.party c.loop-job.job c.in-Ok.field-0 c.show_view.ensures c.loop-job.invariant pushed
