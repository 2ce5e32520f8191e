-- Names for blocks that are never used again, of which each tells a place.
use Rattle.std.proofs.Common.{ℕ, zero, suc}
use denote.RawPtr.{Ptr, block_ptr}

-- the pair behind this one, where all pairs stand in a row
abbrev pub next_pair : ℕ × ℕ → ℕ × ℕ
next_pair (x, zero) = (0, suc x)
next_pair (x, suc y) = (suc x, y)

-- the pair of this number
abbrev pub pair_at : ℕ → ℕ × ℕ
pair_at zero = (0, 0)
pair_at (suc n) = next_pair (pair_at n)

-- the place that a name tells
abbrev pub spot : ℕ → Ptr
spot f = block_ptr (pair_at (pair_at f).1).0 (pair_at (pair_at f).1).1
