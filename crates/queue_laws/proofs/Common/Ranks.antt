-- How many steps a call has before it, where that hangs on a test.
use Rattle.std.proofs.Common.{ℕ, ◌<◌, ◌≤◌, Bool, true, false, if◌then◌else◌}

-- one of two numbers, by a test
pub either_small : (b : Bool) (m n most : ℕ) → m ≤ most → n ≤ most → (if b then m else n) ≤ most
either_small true m n most lm ln = lm
either_small false m n most lm ln = ln

pub either_some : (b : Bool) (m n : ℕ) → 0 < m → 0 < n → 0 < (if b then m else n)
either_some true m n lm ln = lm
either_some false m n lm ln = ln
