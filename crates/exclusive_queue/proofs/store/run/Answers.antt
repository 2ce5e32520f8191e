use Rattle.std.proofs.Common.{arith, ap, length}
use Rattle.exclusive_queue.proofs.SequentialRuns.{run_more}
use Rattle.exclusive_queue.proofs.store.run.Goals as goal

pub loop-call-preserved : goal.loop-call-preserved
loop-call-preserved g c =
    let more = ap length c.in-Some.ensures.steps.0 in
    let so_far = run_more _ _ _ _ _ _ _ c.loop-call.invariant.runs c.answer.ensures.sequential in
    record {
      can = tt;
      finite = tt;
      idle = c.answer.ensures.idle;
      runs = rw c.push_reserved.ensures.items so_far;
      room = omega (arith, more, c.loop-call.invariant.room, c.push_reserved.ensures.len, c.push_reserved.ensures.capacity);
    }
