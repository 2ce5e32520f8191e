-- The place of an item among the positions: its block, its slot, and the items before it.
use Rattle.std.proofs.Common.{ℕ, ◌/◌, ◌%◌, ◌≡◌, arith}
use Rattle.queue_steps.specs.ChainWords.{block_at, offset_at}
use Rattle.queue_laws.specs.{Common.Vocabulary.BLOCK_SLOTS, Chain.ChainFacts.place}

pub place_block : (n : ℕ) → block_at (place n) ≡ n / BLOCK_SLOTS
place_block n = omega arith

pub place_offset : (n : ℕ) → offset_at (place n) ≡ n % BLOCK_SLOTS
place_offset n = omega arith
