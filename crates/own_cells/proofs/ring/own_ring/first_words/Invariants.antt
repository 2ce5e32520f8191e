use Rattle.own_cells.specs.OneRing.RingOpening.{OpensTo}
use Rattle.own_cells.proofs.ring.own_ring.first_words.Given as goal

-- the stamps so far are written
abbrev pub invariant-loop-slot : goal.invariant-loop-slot
invariant-loop-slot g l = OpensTo l.fn.capacity l.fn.accepted l.slot l.words.items
