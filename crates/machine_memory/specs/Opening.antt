-- The words, slots and blocks of an empty open queue.
use Rattle.std.specs.Prelude.{ℕ, None, List, [], replicate}
use Rattle.queue_steps.specs.declared.steps.types.Kind.{Kind, Kind as kind}
use Rattle.queue_laws.specs.Ring.RingOpening.{numbers_below}
use Rattle.machine_memory.specs.SharedMemory.{MemoryState}

-- the stamps of a queue of this kind at its beginning: each slot of a ring is free for the position of its own number
abbrev pub opening_stamps : Kind → List ℕ
opening_stamps (kind.Bounded n) = numbers_below n
opening_stamps _ = []

-- how many slots a queue of this kind has
abbrev pub slot_count : Kind → ℕ
slot_count kind.Single = 1
slot_count (kind.Bounded n) = n
slot_count kind.Unbounded = 0

abbrev pub opening_shared : {T : Type 0} → Kind → MemoryState T
opening_shared k = record { lock = 0; head = 0; tail = 0; stamps = opening_stamps k; slots = replicate (slot_count k) None; head_block = None; tail_block = None; blocks = [] }
