-- Tests of numbers, and the cases of two numbers.
use Rattle.std.specs.Prelude.{◌==◌, nat_lt, not, bit_or}
use Rattle.std.proofs.Common.{◌≡◌, ◌≢◌, ◌⊎◌, ℕ, ◌+◌, ◌%◌, ◌<◌, ◌≤◌, true, false, arith}
use Rattle.queue_steps.specs.Words.{position_of, is_shut}
use Rattle.queue_laws.{specs.Common.Vocabulary.MARK, specs.Common.Vocabulary.TAIL_STEP, proofs.Common.Tails.or_one}

pub less : (m n : ℕ) → m < n → nat_lt m n ≡ true
less m n h = grind arith

pub same_nat : (n : ℕ) → (n == n) ≡ true
same_nat n = grind arith

pub equal_nat : (m n : ℕ) → m ≡ n → (m == n) ≡ true
equal_nat m n e = grind arith

pub apart_nat : (m n : ℕ) → m ≢ n → (m == n) ≡ false
apart_nat m n differs = grind arith

pub is_equal : (m n : ℕ) → (m == n) ≡ true → m ≡ n
is_equal m n e = grind arith

pub is_apart : (m n : ℕ) → (m == n) ≡ false → m ≢ n
is_apart m n e = grind arith

pub is_below : (m n : ℕ) → (m == n) ≡ false → m ≤ n → m < n
is_below m n e h = grind arith

-- a word that has no mark is even
pub is_even : (t : ℕ) → (t % 2 == 0) ≡ not (is_shut t)
is_even t = grind arith

pub same_or_not : (m n : ℕ) → (m ≡ n) ⊎ (m ≢ n)
same_or_not m n = grind arith

pub below_or_not : (m n : ℕ) → (m < n) ⊎ (n ≤ m)
below_or_not m n = grind arith

pub equal_or_above : (m n : ℕ) → m ≤ n → (n ≡ m) ⊎ (m < n)
equal_or_above m n h = grind arith

-- whether m is the last number below n
pub last_or_not : (m n : ℕ) → m < n → (m + 1 ≡ n) ⊎ (m + 1 < n)
last_or_not m n h = grind arith

-- a tail one position on, and a tail with the mark
pub odd_up : (t : ℕ) → (t + TAIL_STEP) % 2 ≡ t % 2
odd_up t = omega arith

pub half_mark : (t : ℕ) → position_of (bit_or t MARK) ≡ position_of t
half_mark t = let e = or_one t in omega arith

pub odd_mark : (t : ℕ) → (bit_or t MARK) % 2 ≡ 1
odd_mark t = let e = or_one t in omega arith
