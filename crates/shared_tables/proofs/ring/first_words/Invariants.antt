use Rattle.shared_tables.specs.RingOpening.{IsFirst}
use Rattle.shared_tables.proofs.ring.first_words.Given as goal

abbrev pub invariant-loop-slot : goal.invariant-loop-slot
invariant-loop-slot g l = IsFirst l.fn.capacity l.slot l.words.items
