-- The coding of a chain's words: nothing else says how a position stands in a word, a block and a slot.
use Rattle.std.specs.Prelude.{ℕ, ◌+◌, ◌*◌, ◌/◌, ◌%◌, ◌==◌, if◌then◌else◌}
use Rattle.queue_steps.specs.{declared.sizes.TheConstants.BLOCK_SLOTS, declared.sizes.TheConstants.BLOCK_POSITIONS, Words.position_of}

-- the block of a position, and the offset in it
abbrev pub block_at : ℕ → ℕ
block_at position = position / BLOCK_POSITIONS

abbrev pub offset_at : ℕ → ℕ
offset_at position = position % BLOCK_POSITIONS

-- the offset of a word's position
abbrev pub offset_of : ℕ → ℕ
offset_of word = offset_at (position_of word)

-- how many items stand before a position. The last offset of a block and the first of the next stand for the same count
abbrev pub items_before : ℕ → ℕ
items_before position = block_at position * BLOCK_SLOTS + offset_at position

-- the position, moved over its block's end
abbrev pub over_end : ℕ → ℕ
over_end position = if offset_at position == BLOCK_SLOTS then position + 1 else position
