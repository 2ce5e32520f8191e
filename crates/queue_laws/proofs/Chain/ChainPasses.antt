-- What one party's step leaves of a chain for the others: counts that grow, and parts that stay.
use Rattle.std.proofs.Common.{ℕ, ◌≡◌, ◌≢◌, ◌⊎◌, inl, inr, Some, refl, sym, ap, subst, arith}
use Rattle.queue_laws.specs.Chain.ChainCells.{Writer, Free, Writing, Reader, Mover, Rests, Laying, Passer, Stands, LinkState, Linked, Shown, Showing, Seen, Walk, Use, Spare, Chain, ChainOk, Part, Write, Read, Tail, Head, Next, First, Passed, reader_of, mover_of, passer_of, linker_of, shower_of}
use Rattle.queue_laws.specs.Chain.ChainCells.{walker_of, owner}
use Rattle.queue_laws.proofs.Chain.ChainTransitions.{next_free, no_front}
use Rattle.queue_laws.specs.Chain.{ChainTransitions.appended, ChainTransitions.installed, ChainTransitions.displayed, ChainTransitions.marked, ChainPasses.Kept, ChainPasses.Passes}
use Rattle.queue_laws.proofs.Chain.ChainLeaves.{Leaves, leaves_same, IsFree, free_none, free_own, leaves_own, row_put, EndMoves, end_same, ItemKept, item_same, Once, once_same, Blocks, blocks_same, blocks_more, PushSide, PopSide}

-- what another party holds of any part stays, and it comes by none
held_by : {A : Type 0} {r s : Chain A} (who : ℕ) → PushSide who r s → PopSide who r s → (x : Part) (other : ℕ) → other ≢ who → owner r x ≡ Some other → Kept r s x
held_by who push pop (Write n) other ne e = (push.places n).left.held other ne e
held_by who push pop (Read n) other ne e = (pop.reads n).held other ne e
held_by who push pop Tail other ne e = let same = push.tail.left.held other ne e in (ap (λ end. end.0) same, ap (λ end. end.1) same)
held_by who push pop Head other ne e = let same = pop.head.left.held other ne e in (ap (λ end. end.0) same, ap (λ end. end.1) same)
held_by who push pop (Next b) other ne e = (push.links b).left.held other ne e
held_by who push pop First other ne e = push.front.left.held other ne e
held_by who push pop (Passed b) other ne e = (pop.walks b).held other ne e

owned_by : {A : Type 0} {r s : Chain A} (who : ℕ) → PushSide who r s → PopSide who r s → (x : Part) (other : ℕ) → other ≢ who → owner s x ≡ Some other → owner r x ≡ Some other
owned_by who push pop (Write n) = (push.places n).left.owned
owned_by who push pop (Read n) = (pop.reads n).owned
owned_by who push pop Tail = push.tail.left.owned
owned_by who push pop Head = pop.head.left.owned
owned_by who push pop (Next b) = (push.links b).left.owned
owned_by who push pop First = push.front.left.owned
owned_by who push pop (Passed b) = (pop.walks b).owned

pub passes_by : {A : Type 0} {r s : Chain A} (who : ℕ) → (s.head ≡ r.head) ⊎ (s.tail ≡ r.tail) → PushSide who r s → PopSide who r s → Passes who r s
passes_by who one push pop = record {
  heads = pop.head.moves;
  tails = push.tail.moves;
  one = one;
  stands = pop.head.rests;
  rests = push.tail.rests;
  grows = push.blocks.grows;
  names = push.blocks.named;
  valued = λ n. (push.places n).valued;
  wrote = λ n. (push.places n).wrote;
  linked = λ b. (push.links b).stays;
  sees = push.front.stays;
  spares = push.blocks.uses_left.spares;
  spared = push.blocks.uses_left.spared;
  held = held_by who push pop;
  owned = owned_by who push pop;
}

-- what pushes change, and what pops do
abbrev pub pushes_of : {A : Type 0} → Chain A → (Mover × ℕ) × (ℕ → Writer A) × (ℕ × (ℕ → ℕ) × (ℕ → Use)) × (ℕ → LinkState) × Shown
pushes_of c = ((c.mover, c.tail), c.writers, (c.blocks, c.names, c.uses), c.links, c.shown)

abbrev pub pops_of : {A : Type 0} → Chain A → (Passer × ℕ) × (ℕ → Reader) × (ℕ → Walk)
pops_of c = ((c.passer, c.head), c.readers, c.walks)

push_side : {A : Type 0} {r s : Chain A} (who : ℕ) → pushes_of s ≡ pushes_of r → PushSide who r s
push_side {r = r} who same = record {
  tail = subst (λ p. EndMoves who mover_of Rests (r.mover, r.tail) p.0) (sym same) end_same;
  places = λ n. subst (λ p. ItemKept who (r.writers n) (p.1 n)) (sym same) (item_same who (r.writers n));
  blocks = subst (λ p. Blocks who r.blocks r.names r.uses p.2.0 p.2.1 p.2.2) (sym same) blocks_same;
  links = λ b. subst (λ p. Once who linker_of Linked (r.links b) (p.3 b)) (sym same) once_same;
  front = subst (λ p. Once who shower_of Seen r.shown p.4) (sym same) once_same;
}

pop_side : {A : Type 0} {r s : Chain A} (who : ℕ) → pops_of s ≡ pops_of r → PopSide who r s
pop_side {r = r} who same = record {
  head = subst (λ p. EndMoves who passer_of Stands (r.passer, r.head) p.0) (sym same) end_same;
  reads = λ n. subst (λ p. Leaves who reader_of (r.readers n) (p.1 n)) (sym same) leaves_same;
  walks = λ b. subst (λ p. Leaves who walker_of (r.walks b) (p.2 b)) (sym same) leaves_same;
}

-- a step of a push, and one of a pop
pub passes_push : {A : Type 0} {r s : Chain A} (who : ℕ) → PushSide who r s → pops_of s ≡ pops_of r → Passes who r s
passes_push who push same = passes_by who (inl (ap (λ p. p.0.1) same)) push (pop_side who same)

pub passes_pop : {A : Type 0} {r s : Chain A} (who : ℕ) → PopSide who r s → pushes_of s ≡ pushes_of r → Passes who r s
passes_pop who pop same = passes_by who (inr (ap (λ p. p.0.1) same)) (push_side who same) pop

-- a step that changes nothing, and the mark of a close
pub passes_same : {A : Type 0} (c : Chain A) (who : ℕ) → Passes who c c
passes_same c who = passes_push who (push_side who refl) refl

pub passes_marked : {A : Type 0} (c : Chain A) (who : ℕ) → Passes who c (marked c)
passes_marked c who = passes_push who (push_side who refl) refl

-- U5
pub passes_appended : {A : Type 0} (c : Chain A) (who : ℕ) (v : A) (m : Mover) → ChainOk c → c.mover ≡ Rests → (m ≡ Rests) ⊎ (m ≡ Laying who) → Passes who c (appended c who v m)
passes_appended {A} c who v m ok rest mine = passes_push who (record {
  tail = record { moves = inr refl; rests = λ e. inl (omega arith); left = leaves_own (free_none (ap mover_of rest)) mover_free };
  places = row_put (ItemKept who) c.writers c.tail (Writing who v) (item_same who) (rw ((next_free c ok).0) fresh);
  blocks = blocks_same;
  links = λ b. once_same;
  front = once_same;
}) refl
  where
    mover_free : IsFree who (mover_of m)
    mover_free = elim mine [ inl z ↦ free_none (ap mover_of z) | inr z ↦ free_own (ap mover_of z) ]

    fresh : ItemKept who Free (Writing who v)
    fresh = record { valued = λ x e. cc; wrote = λ x e. cc; left = leaves_own (free_none refl) (free_own refl) }

-- U4
pub passes_installed : {A : Type 0} (c : Chain A) (who : ℕ) (f : ℕ) → ChainOk c → c.blocks ≡ 0 → c.uses f ≡ Spare who → Passes who c (installed c who f)
passes_installed c who f ok none spare = passes_push who (record {
  tail = end_same;
  places = λ n. item_same who (c.writers n);
  blocks = blocks_more who c.blocks c.names c.uses f spare;
  links = λ b. once_same;
  front = rw ((no_front c ok none).0) (record { stays = λ e. cc; left = leaves_own (free_none refl) (free_own refl) });
}) refl

-- U4b
pub passes_displayed : {A : Type 0} (c : Chain A) (who : ℕ) → c.shown ≡ Showing who → Passes who c (displayed c)
passes_displayed c who is = passes_push who (record {
  tail = end_same;
  places = λ n. item_same who (c.writers n);
  blocks = blocks_same;
  links = λ b. once_same;
  front = record { stays = λ e. refl; left = leaves_own (free_own (ap shower_of is)) (free_none refl) };
}) refl
