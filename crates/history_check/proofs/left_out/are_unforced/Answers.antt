use Rattle.std.proofs.Common.{refl}
use Rattle.history_check.proofs.left_out.are_unforced.Goals as goal

pub loop-event-preserved : goal.loop-event-preserved
loop-event-preserved c = λ n plain. (rw c.in-Some.ensures.0 at c.loop-event.invariant) n (c.if-not-is_unforced.ensures refl n c.in-Some.others.now plain)

pub returns : goal.returns
returns c = λ yes n. (rw c.in_default.ensures at c.loop-event.invariant) n tt
