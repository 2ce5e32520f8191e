use Rattle.std.proofs.Common.{◌≡◌}
use Rattle.exclusive_queue.specs.Collecting.{queued}
use Rattle.exclusive_queue.proofs.exclusive.collecting.ExclusiveFromIterator.from_iter.Given as goal

-- what came is in the queue, in its order
abbrev pub invariant-loop-item : goal.invariant-loop-item
invariant-loop-item g l = l.queue.queue ≡ queued l.yielded
