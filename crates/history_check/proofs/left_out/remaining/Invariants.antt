use Rattle.std.proofs.Common.{◌≡◌, ◌++◌, false, length}
use Rattle.std.specs.Prelude.{replicate}
use Rattle.history_check.specs.{Levels.Expects, LeftOut.is_among, LeftOut.remaining}
use Rattle.history_check.proofs.left_out.remaining.Given as goal

abbrev pub invariant-loop-event : goal.invariant-loop-event
invariant-loop-event g l = record {
  expects : Expects l.replies l.rest;
  so_far : l.some.items ++ remaining (is_among l.fn.kept) l.fn.looks l.outs l.rest ≡ remaining (is_among l.fn.kept) l.fn.looks (replicate l.fn.parties false) l.fn.events;
}

abbrev pub decreases-loop-event : goal.decreases-loop-event
decreases-loop-event g l = length l.rest
