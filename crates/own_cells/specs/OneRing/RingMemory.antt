-- A ring in the words and slots of a table.
use Rattle.std.specs.Prelude.{ℕ, List, get_or, Option}
use Rattle.own_cells.specs.{OneRing.RingCells.RingState, OneRing.RingWords.stamps_in, declared.ring.ring_words.TheConstants.TAIL, declared.ring.ring_words.TheConstants.HEAD}

-- the ring in a table's words, which are the count of parties, the tail, the head and the stamps, and in its slots
abbrev pub ring_in : {T : Type 0} → ℕ → List ℕ → List (Option T) → RingState T
ring_in cap ws xs = record { cap = cap; head = get_or ws HEAD 0; tail = get_or ws TAIL 0; stamps = stamps_in cap ws; slots = xs }
