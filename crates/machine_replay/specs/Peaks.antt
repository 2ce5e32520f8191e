-- How many blocks a machine has at most, told from the machine alone.
use Rattle.std.specs.Prelude.{ℕ, ◌+◌, ◌-◌, ◌/◌, nat_lt, if◌then◌else◌, true, List, [], ◌∷◌}
use Rattle.machine_replay.specs.Vocabulary.{BLOCK_SLOTS, Kind, Event, Peak, Running}
use Rattle.queue_steps.specs.{Words.position_of, ChainWords.items_before}
use Rattle.machine_memory.specs.{SharedMemory.MemoryState, Present.present}
use Rattle.machine_steps.specs.{Left.opening_world, Machine.event_of, World.World}

-- how many items a chain holds, by its head and its tail
abbrev pub held : {T : Type 0} → MemoryState T → ℕ
held s = items_before (position_of s.tail) - items_before (position_of s.head)

-- the bound on the blocks of a chain: what its items fill, two, and one for each call in progress
abbrev pub bound_of : {T : Type 0} → World (MemoryState T) (Running T) → ℕ
bound_of w = held w.shared / BLOCK_SLOTS + 2 + present w.calls

-- before the first event there is no block
abbrev pub opening_peak : Peak
opening_peak = record { blocks = 0; bound = 2 }

-- the greatest number of blocks so far, and the bound at the first moment that had so many
abbrev pub peaked : {T : Type 0} → World (MemoryState T) (Running T) → Peak → Peak
peaked w p = if nat_lt p.blocks (present w.shared.blocks) then record { blocks = present w.shared.blocks; bound = bound_of w } else p

-- the same after these events, from w on and with the peak p before, where each request that no event refuses is granted
abbrev pub peak_after : {T : Type 0} → Kind → World (MemoryState T) (Running T) → Peak → List (Event T) → Peak
peak_after k w p [] = p
peak_after k w p (e ∷ es) = peak_after k (event_of k true w e).0 (peaked (event_of k true w e).0 p) es

-- the same of the empty open queue of this kind that so many parties share
abbrev pub peak_of : {T : Type 0} → Kind → ℕ → List (Event T) → Peak
peak_of k parties es = peak_after k (opening_world k parties) opening_peak es
