use Rattle.std.proofs.Common.{◌≡◌, length, take}
use Rattle.machine_explore.proofs.progress.are_same.Given as goal

abbrev pub invariant-loop-index : goal.invariant-loop-index
invariant-loop-index l = (length l.replies ≡ length l.others) × (take l.index l.replies ≡ take l.index l.others)
