use Rattle.std.proofs.Common.{◌≡◌, length, take}
use Rattle.machine_explore.proofs.outcome.have_same_replies.Given as goal

abbrev pub invariant-loop-index : goal.invariant-loop-index
invariant-loop-index g l = (length l.parties ≡ length l.others) × (take l.index l.parties ≡ take l.index l.others)
