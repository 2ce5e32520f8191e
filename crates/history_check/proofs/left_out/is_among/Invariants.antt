use Rattle.std.proofs.Common.{◌≡◌, length}
use Rattle.history_check.specs.LeftOut.{is_among}
use Rattle.history_check.proofs.left_out.is_among.Given as goal

abbrev pub invariant-loop-rest : goal.invariant-loop-rest
invariant-loop-rest l = is_among l.fn.values l.fn.value ≡ is_among l.rest l.fn.value

abbrev pub decreases-loop-rest : goal.decreases-loop-rest
decreases-loop-rest l = length l.rest
