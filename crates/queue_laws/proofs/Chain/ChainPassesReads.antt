-- What a step of a pop leaves of a chain for the others.
use Rattle.std.proofs.Common.{ℕ, ◌/◌, ◌≡◌, ◌≢◌, ◌∙◌, ◌⊎◌, inl, inr, Bool, Some, refl, sym, ap, arith}
use Rattle.queue_laws.specs.{Common.Vocabulary.BLOCK_SLOTS, Chain.ChainTransitions.taken, Chain.ChainTransitions.passed, Chain.ChainTransitions.entered, Chain.ChainTransitions.reads, Chain.ChainTransitions.walked, Chain.ChainPasses.Passes}
use Rattle.queue_laws.specs.Chain.ChainCells.{Unread, Reading, Done, Passer, Stands, Passing, Entering, Walk, Chain, reader_of, passer_of, walker_of}
use Rattle.queue_laws.proofs.Chain.{ChainLeaves.Leaves, ChainLeaves.leaves_same, ChainLeaves.IsFree, ChainLeaves.free_none, ChainLeaves.free_own, ChainLeaves.leaves_own, ChainLeaves.row_put, ChainLeaves.end_same, ChainPasses.passes_pop}

-- V4
pub passes_taken : {A : Type 0} (c : Chain A) (who : ℕ) (p : Passer) (more : Bool) → c.readers c.head ≡ Unread → c.passer ≡ Stands → (p ≡ Stands) ⊎ (p ≡ Passing who) → Passes who c (taken c who p more)
passes_taken c who p more free stand mine = passes_pop who (record {
  head = record { moves = inr refl; rests = λ e. inl (omega arith); left = leaves_own (free_none (ap passer_of stand)) passer_free };
  reads = row_put (Leaves who reader_of) c.readers c.head (Reading who) (λ r. leaves_same) (leaves_own (free_none (ap reader_of free)) (free_own refl));
  walks = λ b. leaves_same;
}) refl
  where
    passer_free : IsFree who (passer_of p)
    passer_free = elim mine [ inl z ↦ free_none (ap passer_of z) | inr z ↦ free_own (ap passer_of z) ]

-- V7
pub passes_passed : {A : Type 0} (c : Chain A) (who : ℕ) → c.passer ≡ Passing who → Passes who c (passed c who)
passes_passed c who is = passes_pop who (record {
  head = record { moves = inl refl; rests = λ e. absurd (let z : Passing who ≡ Stands = sym is ∙ e in cc); left = leaves_own (free_own (ap passer_of is)) (free_own refl) };
  reads = λ n. leaves_same;
  walks = λ b. leaves_same;
}) refl

-- V8
pub passes_entered : {A : Type 0} (c : Chain A) (who : ℕ) (more : Bool) → c.passer ≡ Entering who → Passes who c (entered c more)
passes_entered c who more is = passes_pop who (record {
  head = record { moves = inl refl; rests = λ e. inr refl; left = leaves_own (free_own (ap passer_of is)) (free_none refl) };
  reads = λ n. leaves_same;
  walks = λ b. leaves_same;
}) refl

-- V10, W1
pub passes_reads : {A : Type 0} (c : Chain A) (who : ℕ) (n : ℕ) (w : Walk) → c.readers n ≡ Reading who
    → ((other : ℕ) → other ≢ who → walker_of (c.walks (n / BLOCK_SLOTS)) ≡ Some other → w ≡ c.walks (n / BLOCK_SLOTS))
    → ((other : ℕ) → other ≢ who → walker_of w ≡ Some other → walker_of (c.walks (n / BLOCK_SLOTS)) ≡ Some other) → Passes who c (reads c n w)
passes_reads c who n w is free mine = passes_pop who (record {
  head = end_same;
  reads = row_put (Leaves who reader_of) c.readers n Done (λ r. leaves_same) (leaves_own (free_own (ap reader_of is)) (free_none refl));
  walks = row_put (Leaves who walker_of) c.walks (n / BLOCK_SLOTS) w (λ x. leaves_same) (record { held = free; owned = mine });
}) refl

-- W1, W2
pub passes_walked : {A : Type 0} (c : Chain A) (who : ℕ) (b : ℕ) (w : Walk) → ((other : ℕ) → other ≢ who → walker_of (c.walks b) ≢ Some other) → ((other : ℕ) → other ≢ who → walker_of w ≢ Some other) → Passes who c (walked c b w)
passes_walked c who b w is mine = passes_pop who (record {
  head = end_same;
  reads = λ n. leaves_same;
  walks = row_put (Leaves who walker_of) c.walks b w (λ x. leaves_same) (leaves_own is mine);
}) refl
