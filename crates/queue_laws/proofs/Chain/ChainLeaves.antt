-- What one party's step leaves for the others of each sort of part of a chain.
use Rattle.std.proofs.Common.{ℕ, ◌+◌, ◌<◌, ◌≤◌, ◌≡◌, ◌≢◌, ◌∙◌, ◌⊎◌, inl, inr, Option, Some, None, refl, sym, arith}
use Rattle.queue_laws.specs.Common.Puts.{put}
use Rattle.queue_laws.proofs.Common.Puts.{put_ok, put_other}
use Rattle.queue_laws.specs.Chain.ChainCells.{Writer, Wrote, Rests, Stands, Linked, Seen, Use, Spare, Chained, Chain, value, writer_of, reader_of, mover_of, passer_of, linker_of, shower_of, walker_of}

-- a part goes from x to y: another party's stays, and no other party comes by it
pub record Leaves {X : Type 0} (who : ℕ) (whose : X → Option ℕ) (x y : X) : Type 0 where
  pub held : (other : ℕ) → other ≢ who → whose x ≡ Some other → y ≡ x
  pub owned : (other : ℕ) → other ≢ who → whose y ≡ Some other → whose x ≡ Some other

pub leaves_same : {X : Type 0} {who : ℕ} {whose : X → Option ℕ} {x : X} → Leaves who whose x x
leaves_same = record { held = λ other ne e. refl; owned = λ other ne e. e }

-- the part is no other party's
abbrev pub IsFree : ℕ → Option ℕ → Type 0
IsFree who owner = (other : ℕ) → other ≢ who → owner ≢ Some other

pub free_none : {who : ℕ} {owner : Option ℕ} → owner ≡ None → IsFree who owner
free_none nobody = λ other ne e. let f : None ≡ Some other = sym nobody ∙ e in cc

pub free_own : {who : ℕ} {owner : Option ℕ} → owner ≡ Some who → IsFree who owner
free_own {who = who} own = λ other ne e. let f : Some who ≡ Some other = sym own ∙ e in absurd (ne (let g : other ≡ who = cc in g))

pub leaves_own : {X : Type 0} {who : ℕ} {whose : X → Option ℕ} {x y : X} → IsFree who (whose x) → IsFree who (whose y) → Leaves who whose x y
leaves_own before after = record { held = λ other ne e. absurd (before other ne e); owned = λ other ne e. absurd (after other ne e) }

-- a row of parts, one of which changes
pub row_put : {X : Type 0} (P : X → X → Type 0) (f : ℕ → X) (i : ℕ) (x : X) → ((y : X) → P y y) → P (f i) x → (j : ℕ) → P (f j) (put f i x j)
row_put P f i x same here j = put_ok f i j x (λ k y. P (f k) y) here (λ ne. same (f j))

-- an end of the chain, by who moves it over a block's end and where it is: it stays or goes one on, and one that rests goes on before it is moved
pub record EndMoves {X : Type 0} (who : ℕ) (whose : X → Option ℕ) (still : X) (before after : X × ℕ) : Type 0 where
  pub moves : (after.1 ≡ before.1) ⊎ (after.1 ≡ before.1 + 1)
  pub rests : before.0 ≡ still → (before.1 < after.1) ⊎ (after.0 ≡ still)
  pub left : Leaves who (λ end. whose end.0) before after

pub end_same : {X : Type 0} {who : ℕ} {whose : X → Option ℕ} {still : X} {end : X × ℕ} → EndMoves who whose still end end
end_same = record { moves = inl refl; rests = λ e. inr e; left = leaves_same }

-- the place of an item: what it is claimed for or holds stays
pub record ItemKept {A : Type 0} (who : ℕ) (x y : Writer A) : Type 0 where
  pub valued : (v : A) → value x ≡ Some v → value y ≡ Some v
  pub wrote : (v : A) → x ≡ Wrote v → y ≡ Wrote v
  pub left : Leaves who (λ w. writer_of w) x y

pub item_same : {A : Type 0} (who : ℕ) (x : Writer A) → ItemKept who x x
item_same who x = record { valued = λ v e. e; wrote = λ v e. e; left = leaves_same }

-- what is done once and for all: the link of a block, the showing of the first one
pub record Once {X : Type 0} (who : ℕ) (whose : X → Option ℕ) (done x y : X) : Type 0 where
  pub stays : x ≡ done → y ≡ done
  pub left : Leaves who whose x y

pub once_same : {X : Type 0} {who : ℕ} {whose : X → Option ℕ} {done x : X} → Once who whose done x x
once_same = record { stays = λ e. e; left = leaves_same }

-- what the blocks' names are for: each other party has the spares that it had
pub record Spared (who : ℕ) (f g : ℕ → Use) : Type 0 where
  pub spares : (name other : ℕ) → other ≢ who → f name ≡ Spare other → g name ≡ Spare other
  pub spared : (name other : ℕ) → other ≢ who → g name ≡ Spare other → f name ≡ Spare other

pub spared_put : {who : ℕ} (f : ℕ → Use) (i : ℕ) (u : Use) → ((other : ℕ) → other ≢ who → f i ≢ Spare other) → ((other : ℕ) → other ≢ who → u ≢ Spare other) → Spared who f (put f i u)
spared_put f i u before after = record {
  spares = λ name other ne. put_ok f i name u (λ j x. f j ≡ Spare other → x ≡ Spare other) (λ e. absurd (before other ne e)) (λ no e. e);
  spared = λ name other ne. put_ok f i name u (λ j x. x ≡ Spare other → f j ≡ Spare other) (λ e. absurd (after other ne e)) (λ no e. e);
}

-- the blocks: there is none less, and each has the name that it had
pub record Blocks (who count : ℕ) (names : ℕ → ℕ) (uses : ℕ → Use) (count' : ℕ) (names' : ℕ → ℕ) (uses' : ℕ → Use) : Type 0 where
  pub grows : count ≤ count'
  pub named : (b : ℕ) → b < count → names' b ≡ names b
  pub uses_left : Spared who uses uses'

pub blocks_same : {who count : ℕ} {names : ℕ → ℕ} {uses : ℕ → Use} → Blocks who count names uses count names uses
blocks_same = record { grows = omega arith; named = λ b lt. refl; uses_left = record { spares = λ f other ne e. e; spared = λ f other ne e. e } }

-- the party's spare becomes a block
pub blocks_more : (who count : ℕ) (names : ℕ → ℕ) (uses : ℕ → Use) (f : ℕ) → uses f ≡ Spare who → Blocks who count names uses (count + 1) (put names count f) (put uses f (Chained count))
blocks_more who count names uses f spare = record {
  grows = omega arith;
  named = λ b lt. put_other names count b f (λ e. omega arith);
  uses_left = spared_put uses f (Chained count)
      (λ other ne e. let z : Spare who ≡ Spare other = sym spare ∙ e in ne (let y : other ≡ who = cc in y))
      (λ other ne e. let z : Chained count ≡ Spare other = e in cc);
}

-- the parts that pushes change
pub record PushSide {A : Type 0} (who : ℕ) (r s : Chain A) : Type 0 where
  pub tail : EndMoves who mover_of Rests (r.mover, r.tail) (s.mover, s.tail)
  pub places : (n : ℕ) → ItemKept who (r.writers n) (s.writers n)
  pub blocks : Blocks who r.blocks r.names r.uses s.blocks s.names s.uses
  pub links : (b : ℕ) → Once who linker_of Linked (r.links b) (s.links b)
  pub front : Once who shower_of Seen r.shown s.shown

-- the parts that pops change
pub record PopSide {A : Type 0} (who : ℕ) (r s : Chain A) : Type 0 where
  pub head : EndMoves who passer_of Stands (r.passer, r.head) (s.passer, s.head)
  pub reads : (n : ℕ) → Leaves who reader_of (r.readers n) (s.readers n)
  pub walks : (b : ℕ) → Leaves who walker_of (r.walks b) (s.walks b)
