-- Blocks that are laid behind the last one, and the oldest block, which is given up.
use Rattle.std.specs.Prelude.{slice_set, get_or}
use Rattle.std.proofs.Common.{◌≡◌, ◌≢◌, ℕ, suc, ◌+◌, ◌-◌, ◌*◌, ◌/◌, ◌%◌, ◌<◌, ◌≤◌, ◌⊎◌, List, [], ◌∷◌, ◌++◌, length, Option, Some, None, refl, arith, sym, ap, ◌∙◌, inl, inr}
use Rattle.std.proofs.lemmas.List.{get_or-set_same, get_or-set_other, length-set, length-append, get_or_append_left, get_or-append_right, get_or-replicate}
use Rattle.queue_steps.specs.{declared.sizes.TheConstants.BLOCK_SLOTS, Effect.rest}
use Rattle.own_cells.specs.{declared.chain.own_chain.Name.Name, OneRing.Laws.Numbers.same_or_not, OneRing.Laws.Numbers.below_or_not}
use Rattle.own_cells.specs.OneChain.OwnChainCells.{Piece, piece_at, state_in, item_in, fresh_piece, IsEmptied}
use Rattle.own_cells.specs.OneChain.{OwnChainOwned.cell_of, OwnChainOwned.HoldsItems, OwnChainOwned.Linked, Laws.OwnChainKeeps.cell_in, Laws.OwnChainKeeps.replaced-keeps}

-- a block is laid behind the last one
abbrev pub laid_behind : {T : Type 0} → List (Piece T) → Name T → List (Piece T)
laid_behind ps b = ps ++ fresh_piece b ∷ []

-- and the block at the place i is linked to it
abbrev pub chained : {T : Type 0} → List (Piece T) → ℕ → Name T → List (Piece T)
chained ps i b = slice_set ps i (record (piece_at ps i) { next = Some b })

pub length-laid : {T : Type 0} (ps : List (Piece T)) (b : Name T) → length (laid_behind ps b) ≡ length ps + 1
length-laid ps b = length-append ps (fresh_piece b ∷ [])

pub laid-old : {T : Type 0} (ps : List (Piece T)) (b : Name T) (i : ℕ) → i < length ps → piece_at (laid_behind ps b) i ≡ piece_at ps i
laid-old ps b i below = get_or_append_left ps (fresh_piece b ∷ []) _ i below

pub laid-new : {T : Type 0} (ps : List (Piece T)) (b : Name T) → piece_at (laid_behind ps b) (length ps) ≡ fresh_piece b
laid-new {T} ps b =
    let none : length ps - length ps ≡ 0 = omega arith in
    get_or-append_right ps (fresh_piece b ∷ []) (length ps) (length ps) _ refl (omega arith) ∙ rw none refl

fresh-cell : {T : Type 0} (b : Name T) (slot : ℕ) → slot < BLOCK_SLOTS → cell_in (fresh_piece b) slot ≡ (0, None)
fresh-cell {T} b slot inside =
    let s : state_in (fresh_piece b) slot ≡ 0 = get_or-replicate BLOCK_SLOTS slot 0 0 inside in
    let o : item_in (fresh_piece b) slot ≡ None = get_or-replicate BLOCK_SLOTS slot None None inside in
    rw (s, o) refl

-- the first block
pub Linked-first : {T : Type 0} (first : ℕ) (b : Name T) → b.number ≡ first → Linked first (fresh_piece b ∷ [])
Linked-first {T} first b is =
    record {
      states = λ i inside. let here : i ≡ 0 = omega arith in rw here refl;
      slots = λ i inside. let here : i ≡ 0 = omega arith in rw here refl;
      number = λ i inside. let here : i ≡ 0 = omega arith in rw here (is ∙ omega arith);
      next = λ i inside. absurd (omega arith);
      end = λ i last. let here : i ≡ 0 = omega arith in rw here refl;
    }

pub HoldsItems-first : {T : Type 0} (b : Name T) → HoldsItems (fresh_piece b ∷ []) 0 0 0
HoldsItems-first {T} b =
    record {
      read = λ n from before. absurd (omega arith);
      written = λ n from before. absurd (omega arith);
      free = λ n from before. let here : n / BLOCK_SLOTS - 0 ≡ 0 = omega arith in rw here (fresh-cell b (n % BLOCK_SLOTS) (omega arith));
    }

-- another block behind the last one, which is at the place k
module _ {T : Type 0} (ps : List (Piece T)) (first k : ℕ) (b : Name T) (last : k + 1 ≡ length ps) (is : b.number ≡ first + length ps) where
  inside : k < length (laid_behind ps b)
  inside = let long = length-laid ps b in omega arith

  -- what does not speak of the link
  keeps : {X : Type 0} (F : Piece T → X) → ((p : Piece T) → F (record p { next = Some b }) ≡ F p) → (i : ℕ) → F (piece_at (chained (laid_behind ps b) k b) i) ≡ F (piece_at (laid_behind ps b) i)
  keeps F same i = replaced-keeps F (laid_behind ps b) k (record (piece_at (laid_behind ps b) k) { next = Some b }) i inside (same (piece_at (laid_behind ps b) k))

  keeps-old : {X : Type 0} (F : Piece T → X) → ((p : Piece T) → F (record p { next = Some b }) ≡ F p) → (i : ℕ) → i < length ps → F (piece_at (chained (laid_behind ps b) k b) i) ≡ F (piece_at ps i)
  keeps-old F same i below = keeps F same i ∙ ap F (laid-old ps b i below)

  keeps-new : {X : Type 0} (F : Piece T → X) → ((p : Piece T) → F (record p { next = Some b }) ≡ F p) → (i : ℕ) → i ≡ length ps → F (piece_at (chained (laid_behind ps b) k b) i) ≡ F (fresh_piece b)
  keeps-new F same i e = rw e (keeps F same (length ps) ∙ ap F (laid-new ps b))

  pub length-chained : length (chained (laid_behind ps b) k b) ≡ length ps + 1
  length-chained = length-set (laid_behind ps b) k (record (piece_at (laid_behind ps b) k) { next = Some b }) ∙ length-laid ps b

  old_or_new : (i : ℕ) → i < length (chained (laid_behind ps b) k b) → (i < length ps) ⊎ (i ≡ length ps)
  old_or_new i below = let long = length-chained in grind arith

  pub Linked-lay : Linked first ps → Linked first (chained (laid_behind ps b) k b)
  Linked-lay linked =
      record {
        states = λ i below. elim (old_or_new i below) [ inl old ↦ keeps-old (λ p. length p.states) (λ p. refl) i old ∙ linked.states i old | inr new ↦ keeps-new (λ p. length p.states) (λ p. refl) i new ];
        slots = λ i below. elim (old_or_new i below) [ inl old ↦ keeps-old (λ p. length p.slots) (λ p. refl) i old ∙ linked.slots i old | inr new ↦ keeps-new (λ p. length p.slots) (λ p. refl) i new ];
        number = λ i below. elim (old_or_new i below) [ inl old ↦ keeps-old (λ p. p.name.number) (λ p. refl) i old ∙ linked.number i old | inr new ↦ keeps-new (λ p. p.name.number) (λ p. refl) i new ∙ (is ∙ omega arith) ];
        next = λ i below. next i (same_or_not i k) (let long = length-chained in omega arith);
        end = λ i ending. let long = length-chained in end i (omega arith);
      }
    where
      next : (i : ℕ) → (i ≡ k) ⊎ (i ≢ k) → i < length ps → (piece_at (chained (laid_behind ps b) k b) i).next ≡ Some (piece_at (chained (laid_behind ps b) k b) (i + 1)).name
      next i (inl e) below =
          let name : (piece_at (chained (laid_behind ps b) k b) (i + 1)).name ≡ b = keeps-new (λ p. p.name) (λ p. refl) (i + 1) (omega arith) in
          let link : (piece_at (chained (laid_behind ps b) k b) k).next ≡ Some b = ap (λ (p : Piece T). p.next) (get_or-set_same (laid_behind ps b) k (record (piece_at (laid_behind ps b) k) { next = Some b }) _ inside) in
          rw (name, e) link
      next i (inr differs) below =
          let name : (piece_at (chained (laid_behind ps b) k b) (i + 1)).name ≡ (piece_at ps (i + 1)).name = keeps-old (λ p. p.name) (λ p. refl) (i + 1) (omega arith) in
          let other : piece_at (chained (laid_behind ps b) k b) i ≡ piece_at ps i = get_or-set_other (laid_behind ps b) k i _ _ differs ∙ laid-old ps b i below in
          ap (λ (p : Piece T). p.next) other ∙ (linked.next i (omega arith) ∙ ap Some (sym name))

      end : (i : ℕ) → i ≡ length ps → (piece_at (chained (laid_behind ps b) k b) i).next ≡ None
      end i e =
          let other : piece_at (chained (laid_behind ps b) k b) (length ps) ≡ fresh_piece b = get_or-set_other (laid_behind ps b) k (length ps) _ _ (λ f. omega arith) ∙ laid-new ps b in
          rw e (ap (λ (p : Piece T). p.next) other)

  pub lay-name : (i : ℕ) → i < length ps → (piece_at (chained (laid_behind ps b) k b) i).name ≡ (piece_at ps i).name
  lay-name i below = keeps-old (λ p. p.name) (λ p. refl) i below

  pub lay-name-new : (piece_at (chained (laid_behind ps b) k b) (length ps)).name ≡ b
  lay-name-new = keeps-new (λ p. p.name) (λ p. refl) (length ps) refl

  -- the cells that were there stay
  pub lay-same : (base n : ℕ) → n < (base + length ps) * BLOCK_SLOTS → cell_of (chained (laid_behind ps b) k b) base n ≡ cell_of ps base n
  lay-same base n before = keeps-old (λ p. cell_in p (n % BLOCK_SLOTS)) (λ p. refl) (n / BLOCK_SLOTS - base) (omega arith)

  pub HoldsItems-lay : (base h t : ℕ) → base * BLOCK_SLOTS ≤ h → h ≤ t → t ≤ (base + length ps) * BLOCK_SLOTS → HoldsItems ps base h t → HoldsItems (chained (laid_behind ps b) k b) base h t
  HoldsItems-lay base h t low order high holds =
      record {
        read = λ n from before. lay-same base n (omega arith) ∙ holds.read n from before;
        written = λ n from before. let old = holds.written n from before in (old.0, lay-same base n (omega arith) ∙ old.1);
        free = λ n from before. let long = length-chained in elim (below_or_not n ((base + length ps) * BLOCK_SLOTS)) [
          | inl old ↦ lay-same base n old ∙ holds.free n from old
          | inr new ↦ keeps-new (λ p. cell_in p (n % BLOCK_SLOTS)) (λ p. refl) (n / BLOCK_SLOTS - base) (omega arith) ∙ fresh-cell b (n % BLOCK_SLOTS) (omega arith)
        ];
      }

-- the oldest block leaves the list
pub piece-rest : {T : Type 0} (ps : List (Piece T)) (i : ℕ) → 0 < length ps → piece_at (rest ps) i ≡ piece_at ps (suc i)
piece-rest [] i some = absurd (omega arith)
piece-rest (p ∷ ps) i some = refl

pub length-rest : {T : Type 0} (ps : List (Piece T)) → 0 < length ps → length (rest ps) + 1 ≡ length ps
length-rest [] some = absurd (omega arith)
length-rest (p ∷ ps) some = omega arith

pub rest-set : {T : Type 0} (ps : List (Piece T)) (p : Piece T) → rest (slice_set ps 0 p) ≡ rest ps
rest-set [] p = refl
rest-set (q ∷ ps) p = refl

pub cell-rest : {T : Type 0} (ps : List (Piece T)) (base n : ℕ) → 0 < length ps → (base + 1) * BLOCK_SLOTS ≤ n → cell_of (rest ps) (base + 1) n ≡ cell_of ps base n
cell-rest {T} ps base n some from =
    let back : n / BLOCK_SLOTS - base ≡ suc (n / BLOCK_SLOTS - (base + 1)) = omega arith in
    rw back (ap (λ (p : Piece T). cell_in p (n % BLOCK_SLOTS)) (piece-rest ps (n / BLOCK_SLOTS - (base + 1)) some))

pub Linked-rest : {T : Type 0} (first : ℕ) (ps : List (Piece T)) → 0 < length ps → Linked first ps → Linked (first + 1) (rest ps)
Linked-rest {T} first ps some linked =
    record {
      states = λ i below. rw (piece-rest ps i some) (linked.states (suc i) (within i below));
      slots = λ i below. rw (piece-rest ps i some) (linked.slots (suc i) (within i below));
      number = λ i below. rw (piece-rest ps i some) (linked.number (suc i) (within i below) ∙ omega arith);
      next = λ i below. let more : suc i + 1 ≡ suc (i + 1) = omega arith in rw (piece-rest ps i some, piece-rest ps (i + 1) some) (linked.next (suc i) (let inner = within (i + 1) below in omega arith) ∙ rw more refl);
      end = λ i last. rw (piece-rest ps i some) (linked.end (suc i) (let long = length-rest ps some in omega arith));
    }
  where
    within : (i : ℕ) → i < length (rest ps) → suc i < length ps
    within i below = let long = length-rest ps some in omega arith

-- after the last item of the oldest block was taken
pub HoldsItems-rest : {T : Type 0} (ps : List (Piece T)) (base h t : ℕ) → 0 < length ps → h < t → h + 1 ≡ (base + 1) * BLOCK_SLOTS → HoldsItems ps base h t → HoldsItems (rest ps) (base + 1) (h + 1) t
HoldsItems-rest {T} ps base h t some order last holds =
    record {
      read = λ n from before. absurd (omega arith);
      written = λ n from before. let old = holds.written n (omega arith) before in (old.0, cell-rest ps base n some (omega arith) ∙ old.1);
      free = λ n from before. free n from before (below_or_not n ((base + 1) * BLOCK_SLOTS));
    }
  where
    free : (n : ℕ) → t ≤ n → n < ((base + 1) + length (rest ps)) * BLOCK_SLOTS → (n < (base + 1) * BLOCK_SLOTS) ⊎ ((base + 1) * BLOCK_SLOTS ≤ n) → cell_of (rest ps) (base + 1) n ≡ (0, None)
    free n from before (inl low) = absurd (omega arith)
    free n from before (inr high) = let long = length-rest ps some in cell-rest ps base n some high ∙ holds.free n from (omega arith)

-- a block whose slots are empty, one after another
pub IsEmptied-all : {T : Type 0} (os : List (Option T)) → ((i : ℕ) → i < length os → get_or os i None ≡ None) → IsEmptied os
IsEmptied-all [] all = tt
IsEmptied-all (o ∷ os) all = (all 0 (omega arith), IsEmptied-all os (λ i below. all (suc i) (omega arith)))
