use Rattle.std.proofs.Common.{◌≡◌, ◌++◌, ◌+◌, length}
use Rattle.law_recorded.specs.Recorded.{history_from, history_of}
use Rattle.law_recorded.proofs.record.record.Given as goal

-- what is recorded of the events so far, and what is to be of those to come
abbrev pub invariant-loop-event : goal.invariant-loop-event
invariant-loop-event g l = record {
  split : l.history.items ++ history_from l.number l.rest l.replies l.skipped ≡ history_of l.fn.events l.fn.replay;
  counted : l.number + length l.rest ≡ length l.fn.events;
}

abbrev pub decreases-loop-event : goal.decreases-loop-event
decreases-loop-event g l = length l.rest
