-- The coding of a ring's words by plain counts: nothing else says how a position stands in a word, a slot or a stamp.
use Rattle.std.specs.Prelude.{ℕ, ◌+◌, ◌*◌, ◌/◌, ◌%◌, ◌^◌, ◌<◌, ◌≤◌, ◌==◌, Bool, true, false}
use Rattle.queue_steps.specs.declared.sizes.TheConstants.{MAX_CAPACITY}

-- a capacity that a ring may have
abbrev pub IsRing : ℕ → Type 0
IsRing n = (1 < n) × (n ≤ MAX_CAPACITY)

-- a word that leaves room for a lap of the longest ring
abbrev pub IsWord : ℕ → Type 0
IsWord word = word + MAX_CAPACITY < 2 ^ 64

-- the position that a tail stands for
abbrev pub position_of : ℕ → ℕ
position_of tail = tail / 2

-- whether a tail is that of a closed queue
abbrev pub is_shut : ℕ → Bool
is_shut tail = tail % 2 == 1

-- the tail of a queue at this position
abbrev pub tail_of : ℕ → Bool → ℕ
tail_of position false = position * 2
tail_of position true = position * 2 + 1

abbrev pub slot_at : ℕ → ℕ → ℕ
slot_at n position = position % n

-- the stamps of a slot that is free for a position, filled for it, and emptied after it
abbrev pub stamp_free : ℕ → ℕ
stamp_free position = position

abbrev pub stamp_filled : ℕ → ℕ
stamp_filled position = position + 1

abbrev pub stamp_emptied : ℕ → ℕ → ℕ
stamp_emptied n position = position + n
