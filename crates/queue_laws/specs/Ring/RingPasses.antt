-- What one party's step leaves of a ring for the others: counts that grow, and slots that stay. And which slots a party has.
use Rattle.std.proofs.Common.{ℕ, ◌+◌, ◌<◌, ◌≡◌, ◌≢◌, ◌⊎◌, Some, Option, List, [], ◌∷◌}
use Rattle.queue_laws.specs.Ring.{RingCells.Free, RingCells.Full, RingCells.Ring, RingCells.owner, RingCells.HoldsNone, RingWords.item_in}

-- a step of this party leads from the ring r to the ring s
pub record Passes {A : Type 0} (who : ℕ) (r s : Ring A) : Type 0 where
  pub heads : (s.head ≡ r.head) ⊎ (s.head ≡ r.head + 1)
  pub tails : (s.tail ≡ r.tail) ⊎ (s.tail ≡ r.tail + 1)
  pub one : (s.head ≡ r.head) ⊎ (s.tail ≡ r.tail)
  pub free : (k : ℕ) → r.cells k ≡ Free r.tail → (r.tail < s.tail) ⊎ (s.cells k ≡ Free r.tail)
  pub full : (k h : ℕ) (x : A) → r.cells k ≡ Full h x → (h < s.head) ⊎ (s.cells k ≡ Full h x)
  pub held : (k other : ℕ) → other ≢ who → owner (r.cells k) ≡ Some other → s.cells k ≡ r.cells k
  pub owned : (k other : ℕ) → other ≢ who → owner (s.cells k) ≡ Some other → owner (r.cells k) ≡ Some other

-- the slots that a party has, each with what lies in it: none or one
abbrev pub Lent : {A : Type 0} → Ring A → ℕ → List (ℕ × Option A) → Type 0
Lent r who [] = HoldsNone r.cells who
Lent r who (x ∷ []) = (owner (r.cells x.0) ≡ Some who) × (item_in (r.cells x.0) ≡ x.1) × ((k : ℕ) → owner (r.cells k) ≡ Some who → k ≡ x.0)
Lent r who (x ∷ y ∷ zs) = ⊥
