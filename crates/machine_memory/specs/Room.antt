-- The room that there is for blocks, and how many of them are there.
use Rattle.std.specs.Prelude.{◌≡◌, ℕ, ◌+◌, ◌≤◌, vec_len, vec_capacity}
use Rattle.machine_memory.specs.{declared.shared_memory.SharedMemory.SharedMemory, Present.present}

-- there is room for so many blocks more, and for one
abbrev pub HasRoomFor : {T A : Type 0} → SharedMemory T A → ℕ → Type 0
HasRoomFor c n = vec_len c.blocks + n ≤ vec_capacity c.blocks

abbrev pub HasRoom : {T A : Type 0} → SharedMemory T A → Type 0
HasRoom c = HasRoomFor c 1

-- no room was used, or that of one block at most
abbrev pub HasSameRoom : {T A : Type 0} → SharedMemory T A → SharedMemory T A → Type 0
HasSameRoom c d = (vec_len d.blocks ≡ vec_len c.blocks) × (vec_capacity d.blocks ≡ vec_capacity c.blocks)

abbrev pub KeepsRoom : {T A : Type 0} → SharedMemory T A → SharedMemory T A → Type 0
KeepsRoom c d = (vec_len d.blocks ≤ vec_len c.blocks + 1) × (vec_capacity d.blocks ≡ vec_capacity c.blocks)

-- the count that stands beside the blocks is how many of them are there
abbrev pub HasCount : {T A : Type 0} → SharedMemory T A → Type 0
HasCount c = c.alive ≡ present c.blocks.items
