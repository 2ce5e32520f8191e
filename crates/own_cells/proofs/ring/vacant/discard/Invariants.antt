use Rattle.std.proofs.Common.{◌≡◌, length, replicate, None}
use Rattle.own_cells.proofs.ring.vacant.discard.Given as goal

abbrev pub invariant-loop-slot : goal.invariant-loop-slot
invariant-loop-slot g l = l.slots.items ≡ replicate (length l.slots.items) None

abbrev pub decreases-loop-slot : goal.decreases-loop-slot
decreases-loop-slot g l = length l.slots.items
