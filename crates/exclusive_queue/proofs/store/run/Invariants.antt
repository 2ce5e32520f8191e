use Rattle.std.proofs.Common.{◌+◌, ◌≤◌, length, vec_len, vec_capacity}
use Rattle.queue_steps.specs.Sequential.{SequentialRun}
use Rattle.exclusive_queue.proofs.store.run.Given as goal

-- the calls so far are answered, and there is room for the replies to the others
abbrev pub invariant-loop-call : goal.invariant-loop-call
invariant-loop-call g l = record {
  can : (goal.iterator-loop-call g).can_next l.call-iterator;
  finite : (goal.iterator-loop-call g).is_finite l.call-iterator;
  idle : g.S.Sealed.idle l.store;
  runs : SequentialRun (g.S.Sealed.owned l.fn.store) l.yielded l.replies.items (g.S.Sealed.owned l.store);
  room : vec_len l.replies + length l.call-iterator.rest.items ≤ vec_capacity l.replies;
}
