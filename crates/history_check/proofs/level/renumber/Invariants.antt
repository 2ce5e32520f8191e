use Rattle.std.proofs.Common.{◌≡◌}
use Rattle.history_check.proofs.level.renumber.Given as goal

abbrev pub invariant-loop-index : goal.invariant-loop-index
invariant-loop-index g l = l.stages ≡ l.fn.stages
