use Rattle.std.proofs.Common.{◌≡◌, length, take}
use Rattle.history_check.proofs.stage.are_same.Given as goal

abbrev pub invariant-loop-index : goal.invariant-loop-index
invariant-loop-index l = (length l.calls ≡ length l.others) × (take l.index l.calls ≡ take l.index l.others)
