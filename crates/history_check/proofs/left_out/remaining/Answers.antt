use Rattle.history_check.proofs.LeftOut.{one_more}
use Rattle.history_check.proofs.left_out.remaining.Goals as goal

pub loop-event-preserved : goal.loop-event-preserved
loop-event-preserved g c = record {
  expects = c.note_past.ensures;
  so_far = one_more _ _ c.in-Some.event _ _ _ c.in-Some-remains.stays (rw c.in-Some.ensures.0 at c.loop-event.invariant.so_far) ((rw c.in-Some-remains.is at c.remains.ensures) c.in-Some.others.now (rw c.in-Some.ensures.0 at c.loop-event.invariant.expects)) c.in_ok-put.ensures;
}
