-- A ring at its beginning: no item accepted and none taken, every slot free for the position of its own number.
use Rattle.std.proofs.Common.{ℕ, zero, suc, false, List, None, [], ◌∷◌, ◌++◌, replicate}
use Rattle.queue_laws.specs.Ring.{RingCells.Free, RingCells.Ring, RingShared.Shared}

-- the numbers below n, in their order
abbrev pub numbers_below : ℕ → List ℕ
numbers_below zero = []
numbers_below (suc n) = numbers_below n ++ n ∷ []

abbrev pub opening_ring : (A : Type 0) → Ring A
opening_ring A = record { head = 0; tail = 0; closed = false; items = []; coming = None; cells = λ i. Free i }

-- no item accepted and none taken
abbrev pub opening_shared : (A : Type 0) → ℕ → Shared A
opening_shared A cap = record { head = 0; tail = 0; stamps = numbers_below cap; slots = replicate cap None }
