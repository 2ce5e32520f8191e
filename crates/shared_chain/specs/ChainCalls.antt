-- A chain that parties share, as a kind of queue.
use Rattle.std.specs.Prelude.{◌≡◌, ◌≢◌, ◌⊎◌, ℕ, ◌%◌, Bool, true, false, List, [], ◌∷◌, Option, Some, None}
use Rattle.queue_laws.specs.Common.{Vocabulary.Kind, Vocabulary.Local, Vocabulary.BLOCK_SLOTS, Stand.Stand}
use Rattle.queue_laws.specs.Chain.{ChainCells.Wrote, ChainCells.Reading, ChainCells.Chain, ChainCells.queue_of, ChainCells.ChainOk, ChainCells.HoldsOnly, ChainCells.Nothing, ChainCells.writer_of, ChainPasses.Passes, ChainPasses.Spares, ChainPasses.spare_in, ChainAt.At}
use Rattle.queue_steps.specs.{declared.steps.chain.ChainLocal.ChainLocal as chain, State.State}
use Rattle.shared_parties.specs.Calling.{CallsOf}

-- a chain, and of which items the reader has the slot
pub record OutChain (T : Type 0) : Type 0 where
  pub chain : Chain T
  pub out : ℕ → Bool

-- the call has the slot of the item that it reads
abbrev pub has_slot : Local ℕ → Bool
has_slot (Local.Chain (chain.Reading name slot)) = true
has_slot (Local.Chain (chain.Walking name slot)) = true
has_slot _ = false

-- the party has the slot of the item n: it is to write it, or it reads it
abbrev pub HasOut : {T : Type 0} → OutChain T → ℕ → ℕ → Type 0
HasOut g j n = (writer_of (g.chain.writers n) ≡ Some j) ⊎ ((g.chain.readers n ≡ Reading j) × (g.out n ≡ true))

-- the same, and y lies in it
abbrev pub Out : {T : Type 0} → OutChain T → ℕ → ℕ → Option T → Type 0
Out {T} g j n y = ((writer_of (g.chain.writers n) ≡ Some j) × (y ≡ None)) ⊎ ((g.chain.readers n ≡ Reading j) × (g.out n ≡ true) × ((x : T) × (g.chain.writers n ≡ Wrote x) × (y ≡ Some x)))

-- the slots that the party has, at most one
abbrev pub ChainLent : {T : Type 0} → OutChain T → ℕ → List (ℕ × Option T) → Type 0
ChainLent {T} g j xs = ((xs ≡ []) × ((n : ℕ) → ¬ (HasOut g j n))) ⊎ ((n : ℕ) × (y : Option T) × Out g j n y × (xs ≡ (n % BLOCK_SLOTS, y) ∷ []))

-- the party holds no part of the chain, and no spare block
abbrev pub ChainIdle : {T : Type 0} → OutChain T → ℕ → Type 0
ChainIdle g j = HoldsOnly g.chain j Nothing × Spares g.chain j None

-- the readers of this party have their slot exactly where its call says so
abbrev pub SlotsAs : {T : Type 0} → OutChain T → ℕ → Local ℕ → Type 0
SlotsAs g j l = (n : ℕ) → g.chain.readers n ≡ Reading j → g.out n ≡ has_slot l

abbrev pub ChainAt : {T : Type 0} → OutChain T → ℕ → List (State T) → Stand T → Type 0
ChainAt g j ms c = At g.chain j ms c × Spares g.chain j (spare_in c.local) × SlotsAs g j c.local

-- what the step of a party leaves for the others
abbrev pub PassesOut : {T : Type 0} → ℕ → OutChain T → OutChain T → Type 0
PassesOut who g s = Passes who g.chain s.chain × ((j n : ℕ) → j ≢ who → g.chain.readers n ≡ Reading j → s.out n ≡ g.out n)

abbrev pub chain_calls : {T : Type 0} → CallsOf T
chain_calls {T} = record {
  kind = Kind.Unbounded;
  Cells = OutChain T;
  Ok = λ g. ChainOk g.chain;
  queue_of = λ g. queue_of g.chain;
  At = λ g who ms was c. ChainAt g who ms c;
  Passes = λ who g s. PassesOut who g s;
  Lent = λ g who xs. ChainLent g who xs;
  Idle = λ g who. ChainIdle g who;
  Gives = λ spare. Unit {0};
}
