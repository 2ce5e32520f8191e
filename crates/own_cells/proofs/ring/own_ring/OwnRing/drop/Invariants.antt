use Rattle.std.specs.{Prelude.slice_index_or, Mem.Slots.slots_len, Mem.Slots.slots_filled}
use Rattle.std.proofs.Common.{◌≡◌, ℕ, ◌<◌, ◌≤◌, true, false}
use Rattle.own_cells.proofs.ring.own_ring.OwnRing.drop.Given as goal

-- the slots before this one are empty, and the others are not
abbrev pub invariant-loop-slot : goal.invariant-loop-slot
invariant-loop-slot g l =
    (slots_len l.memory.slots ≡ l.capacity)
    × ((k : ℕ) → k < l.slot → slice_index_or (slots_filled l.memory.slots) k false ≡ false)
    × ((k : ℕ) → l.slot ≤ k → k < l.capacity → slice_index_or (slots_filled l.memory.slots) k false ≡ true)
