-- What one party's step leaves of a chain for the others: counts that grow, and parts that stay. And the spares of a party.
use Rattle.std.proofs.Common.{ℕ, ◌+◌, ◌<◌, ◌≤◌, ◌≡◌, ◌≢◌, ◌⊎◌, Some, Option, None}
use Rattle.queue_laws.specs.Chain.ChainCells.{Wrote, Rests, Stands, Linked, Seen, Spare, Chain, value, Part, Write, Read, Tail, Head, Next, First, Passed, owner}
use Rattle.queue_laws.specs.Common.Vocabulary.{Local, ChainLocal}
use Rattle.queue_steps.specs.declared.steps.chain.ChainLocal.{ChainLocal as chain}

-- the part is the same
abbrev pub Kept : {A : Type 0} → Chain A → Chain A → Part → Type 0
Kept r s (Write n) = s.writers n ≡ r.writers n
Kept r s (Read n) = s.readers n ≡ r.readers n
Kept r s Tail = (s.mover ≡ r.mover) × (s.tail ≡ r.tail)
Kept r s Head = (s.passer ≡ r.passer) × (s.head ≡ r.head)
Kept r s (Next b) = s.links b ≡ r.links b
Kept r s First = s.shown ≡ r.shown
Kept r s (Passed b) = s.walks b ≡ r.walks b

-- a step of this party leads from the chain r to the chain s
pub record Passes {A : Type 0} (who : ℕ) (r s : Chain A) : Type 0 where
  pub heads : (s.head ≡ r.head) ⊎ (s.head ≡ r.head + 1)
  pub tails : (s.tail ≡ r.tail) ⊎ (s.tail ≡ r.tail + 1)
  pub one : (s.head ≡ r.head) ⊎ (s.tail ≡ r.tail)
  -- nobody moves the head or the tail over a block's end before it moves
  pub stands : r.passer ≡ Stands → (r.head < s.head) ⊎ (s.passer ≡ Stands)
  pub rests : r.mover ≡ Rests → (r.tail < s.tail) ⊎ (s.mover ≡ Rests)
  pub grows : r.blocks ≤ s.blocks
  pub names : (b : ℕ) → b < r.blocks → s.names b ≡ r.names b
  pub valued : (n : ℕ) (x : A) → value (r.writers n) ≡ Some x → value (s.writers n) ≡ Some x
  pub wrote : (n : ℕ) (x : A) → r.writers n ≡ Wrote x → s.writers n ≡ Wrote x
  pub linked : (b : ℕ) → r.links b ≡ Linked → s.links b ≡ Linked
  pub sees : r.shown ≡ Seen → s.shown ≡ Seen
  pub spares : (f other : ℕ) → other ≢ who → r.uses f ≡ Spare other → s.uses f ≡ Spare other
  pub spared : (f other : ℕ) → other ≢ who → s.uses f ≡ Spare other → r.uses f ≡ Spare other
  pub held : (x : Part) (other : ℕ) → other ≢ who → owner r x ≡ Some other → Kept r s x
  pub owned : (x : Part) (other : ℕ) → other ≢ who → owner s x ≡ Some other → owner r x ≡ Some other

-- the spare that a call has at this local state
abbrev pub spare_of : ChainLocal ℕ → Option ℕ
spare_of (chain.PushTail d spare) = spare
spare_of (chain.PushBlock d tail spare) = spare
spare_of (chain.Installing d tail f) = Some f
spare_of (chain.Claiming d tail name spare) = spare
spare_of (chain.Laying d tail name f) = Some f
spare_of (chain.Writing d spare) = spare
spare_of (chain.ClosingAtLimit d spare) = spare
spare_of _ = None

-- the same of any local state: none but a chain's has a spare
abbrev pub spare_in : Local ℕ → Option ℕ
spare_in (Local.Chain l) = spare_of l
spare_in _ = None

-- the party has no spare but this
abbrev pub Spares : {A : Type 0} → Chain A → ℕ → Option ℕ → Type 0
Spares c who spare = (f : ℕ) → c.uses f ≡ Spare who → spare ≡ Some f
