-- What the calls of one owner keep of a chain of blocks: which slots hold the items, and which are read or free.
use Rattle.std.specs.Prelude.{slice_set, bit_or}
use Rattle.std.proofs.Common.{◌≡◌, ◌≢◌, ℕ, zero, suc, ◌+◌, ◌-◌, ◌*◌, ◌/◌, ◌%◌, ◌<◌, ◌≤◌, ◌⊎◌, List, [], ◌++◌, length, Option, Some, None, refl, arith, sym, ap, ◌∙◌, inl, inr}
use Rattle.std.proofs.lemmas.List.{get_or-set_same, get_or-set_other, length-set}
use Rattle.queue_steps.specs.declared.{sizes.TheConstants.BLOCK_SLOTS, steps.chain.TheConstants.WRITE, steps.chain.TheConstants.READ}
use Rattle.own_cells.specs.OneRing.{Laws.Numbers.same_or_not, RingOwned.put_in}
use Rattle.own_cells.specs.OneChain.{OwnChainCells.Piece, OwnChainCells.piece_at, OwnChainCells.state_in, OwnChainCells.item_in, OwnChainOwned.cell_of, OwnChainOwned.items_from, OwnChainOwned.HoldsItems, OwnChainOwned.Linked, Laws.OwnChainRuns.set_cell}

-- the state and the content of a slot of a block
abbrev pub cell_in : {T : Type 0} → Piece T → ℕ → ℕ × Option T
cell_in p slot = (state_in p slot, item_in p slot)

-- a cell that was just set, and another
cell-same : {T : Type 0} (ps : List (Piece T)) (i slot state : ℕ) (item : Option T) → i < length ps → slot < length (piece_at ps i).states → slot < length (piece_at ps i).slots
    → cell_in (piece_at (set_cell ps i slot state item) i) slot ≡ (state, item)
cell-same {T} ps i slot state item below in_states in_slots =
    let was : Piece T = piece_at ps i in
    let p : Piece T = record was { states = slice_set was.states slot state; slots = slice_set was.slots slot item } in
    let got : piece_at (slice_set ps i p) i ≡ p = get_or-set_same ps i p _ below in
    let s : state_in p slot ≡ state = get_or-set_same was.states slot state 0 in_states in
    let o : item_in p slot ≡ item = get_or-set_same was.slots slot item None in_slots in
    ap (λ x. cell_in x slot) got ∙ rw (s, o) refl

cell-other : {T : Type 0} (ps : List (Piece T)) (i slot j other state : ℕ) (item : Option T) → i < length ps → (j ≡ i → other ≢ slot)
    → cell_in (piece_at (set_cell ps i slot state item) j) other ≡ cell_in (piece_at ps j) other
cell-other {T} ps i slot j other state item below apart = go (same_or_not j i)
  where
    was : Piece T
    was = piece_at ps i

    p : Piece T
    p = record was { states = slice_set was.states slot state; slots = slice_set was.slots slot item }

    go : (j ≡ i) ⊎ (j ≢ i) → cell_in (piece_at (set_cell ps i slot state item) j) other ≡ cell_in (piece_at ps j) other
    go (inl e) =
        let got : piece_at (slice_set ps i p) i ≡ p = get_or-set_same ps i p _ below in
        let s : state_in p other ≡ state_in was other = get_or-set_other was.states slot other state 0 (apart e) in
        let o : item_in p other ≡ item_in was other = get_or-set_other was.slots slot other item None (apart e) in
        rw e (ap (λ x. cell_in x other) got ∙ rw (s, o) refl)
    go (inr differs) =
        let got : piece_at (slice_set ps i p) j ≡ piece_at ps j = get_or-set_other ps i j p _ differs in
        ap (λ x. cell_in x other) got

-- what a block keeps where it changes, all blocks keep
pub replaced-keeps : {T X : Type 0} (F : Piece T → X) (ps : List (Piece T)) (i : ℕ) (p : Piece T) (j : ℕ) → i < length ps → F p ≡ F (piece_at ps i) → F (piece_at (slice_set ps i p) j) ≡ F (piece_at ps j)
replaced-keeps {T} {X} F ps i p j below same = go (same_or_not j i)
  where
    go : (j ≡ i) ⊎ (j ≢ i) → F (piece_at (slice_set ps i p) j) ≡ F (piece_at ps j)
    go (inl e) = rw e (ap F (get_or-set_same ps i p _ below) ∙ same)
    go (inr differs) = ap F (get_or-set_other ps i j p _ differs)

-- the cell of an item changes
abbrev pub set_item : {T : Type 0} → List (Piece T) → ℕ → ℕ → ℕ → Option T → List (Piece T)
set_item ps base n state item = set_cell ps (n / BLOCK_SLOTS - base) (n % BLOCK_SLOTS) state item

pub length-set_item : {T : Type 0} (ps : List (Piece T)) (base n state : ℕ) (item : Option T) → length (set_item ps base n state item) ≡ length ps
length-set_item ps base n state item = length-set ps (n / BLOCK_SLOTS - base) (record (piece_at ps (n / BLOCK_SLOTS - base))
    { states = slice_set (piece_at ps (n / BLOCK_SLOTS - base)).states (n % BLOCK_SLOTS) state; slots = slice_set (piece_at ps (n / BLOCK_SLOTS - base)).slots (n % BLOCK_SLOTS) item })

-- and its block keeps its name
pub name-set_item : {T : Type 0} (ps : List (Piece T)) (base n state : ℕ) (item : Option T) (j : ℕ) → n / BLOCK_SLOTS - base < length ps → (piece_at (set_item ps base n state item) j).name ≡ (piece_at ps j).name
name-set_item ps base n state item j below = replaced-keeps (λ p. p.name) ps (n / BLOCK_SLOTS - base) (record (piece_at ps (n / BLOCK_SLOTS - base))
    { states = slice_set (piece_at ps (n / BLOCK_SLOTS - base)).states (n % BLOCK_SLOTS) state; slots = slice_set (piece_at ps (n / BLOCK_SLOTS - base)).slots (n % BLOCK_SLOTS) item }) j below refl

-- the cell of an item in a block that is there, and the cells of other items
module _ {T : Type 0} (ps : List (Piece T)) (base first n state : ℕ) (item : Option T) (linked : Linked first ps) (low : base * BLOCK_SLOTS ≤ n) (high : n < (base + length ps) * BLOCK_SLOTS) where
  inside : n / BLOCK_SLOTS - base < length ps
  inside = omega arith

  pub item-same : cell_of (set_item ps base n state item) base n ≡ (state, item)
  item-same =
      let states = linked.states (n / BLOCK_SLOTS - base) inside in
      let slots = linked.slots (n / BLOCK_SLOTS - base) inside in
      cell-same ps (n / BLOCK_SLOTS - base) (n % BLOCK_SLOTS) state item inside (rw states (omega arith)) (rw slots (omega arith))

  pub item-other : (m : ℕ) → base * BLOCK_SLOTS ≤ m → m ≢ n → cell_of (set_item ps base n state item) base m ≡ cell_of ps base m
  item-other m from differs = cell-other ps (n / BLOCK_SLOTS - base) (n % BLOCK_SLOTS) (m / BLOCK_SLOTS - base) (m % BLOCK_SLOTS) state item inside (λ e f. differs (omega arith))

-- lists whose cells are the same have the same items
pub items_from-same : {T : Type 0} (ps qs : List (Piece T)) (base start n k : ℕ) → ((m : ℕ) → n ≤ m → m < n + k → cell_of ps base m ≡ cell_of qs start m) → items_from ps base n k ≡ items_from qs start n k
items_from-same ps qs base start n zero same = refl
items_from-same {T} ps qs base start n (suc k) same =
    let here : cell_of ps base n ≡ cell_of qs start n = same n (omega arith) (omega arith) in
    let item : (cell_of ps base n).1 ≡ (cell_of qs start n).1 = ap (λ (c : ℕ × Option T). c.1) here in
    let rest = items_from-same ps qs base start (n + 1) k (λ m low high. same m (omega arith) (omega arith)) in
    rw (item, rest) refl

-- one item more at the end
pub items_from-more : {T : Type 0} (ps : List (Piece T)) (base n k : ℕ) → items_from ps base n (k + 1) ≡ items_from ps base n k ++ put_in (cell_of ps base (n + k)).1 []
items_from-more {T} ps base n k = go k n (n + k) refl
  where
    put_in-append : (o : Option T) (xs ys : List T) → put_in o (xs ++ ys) ≡ put_in o xs ++ ys
    put_in-append None xs ys = refl
    put_in-append (Some x) xs ys = refl

    go : (k n m : ℕ) → m ≡ n + k → items_from ps base n (k + 1) ≡ items_from ps base n k ++ put_in (cell_of ps base m).1 []
    go zero n m e = let here : m ≡ n = omega arith in rw here refl
    go (suc j) n m e =
        let more : suc j + 1 ≡ suc (j + 1) = omega arith in
        let rest = go j (n + 1) m (omega arith) in
        rw (more, rest) (put_in-append (cell_of ps base n).1 (items_from ps base (n + 1) j) (put_in (cell_of ps base m).1 []))

-- all of the slots hold items, so the list is as long as there are slots
pub length-items_from : {T : Type 0} (ps : List (Piece T)) (base n k : ℕ) → ((m : ℕ) → n ≤ m → m < n + k → (v : T) × (cell_of ps base m ≡ (WRITE, Some v))) → length (items_from ps base n k) ≡ k
length-items_from ps base n zero all = refl
length-items_from {T} ps base n (suc k) all =
    let here = all n (omega arith) (omega arith) in
    let item : (cell_of ps base n).1 ≡ Some here.0 = ap (λ (c : ℕ × Option T). c.1) here.1 in
    let rest = length-items_from ps base (n + 1) k (λ m low high. all m (omega arith) (omega arith)) in
    rw item (ap suc rest)

pub Linked-set : {T : Type 0} (first : ℕ) (ps : List (Piece T)) (i slot state : ℕ) (item : Option T) → i < length ps → Linked first ps → Linked first (set_cell ps i slot state item)
Linked-set {T} first ps i slot state item below linked =
    record {
      states = λ j inside. replaced-keeps (λ x. length x.states) ps i p j below (length-set was.states slot state) ∙ linked.states j (within j inside);
      slots = λ j inside. replaced-keeps (λ x. length x.slots) ps i p j below (length-set was.slots slot item) ∙ linked.slots j (within j inside);
      number = λ j inside. replaced-keeps (λ x. x.name.number) ps i p j below refl ∙ linked.number j (within j inside);
      next = λ j inside. replaced-keeps (λ x. x.next) ps i p j below refl ∙ (linked.next j (within (j + 1) inside) ∙ ap Some (sym (replaced-keeps (λ x. x.name) ps i p (j + 1) below refl)));
      end = λ j is. replaced-keeps (λ x. x.next) ps i p j below refl ∙ linked.end j (is ∙ length-set ps i p);
    }
  where
    was : Piece T
    was = piece_at ps i

    p : Piece T
    p = record was { states = slice_set was.states slot state; slots = slice_set was.slots slot item }

    within : (j : ℕ) → j < length (slice_set ps i p) → j < length ps
    within j inside = let long = length-set ps i p in omega arith

-- an item is written at the end
pub HoldsItems-push : {T : Type 0} (ps : List (Piece T)) (base first h t : ℕ) (v : T) → Linked first ps → base * BLOCK_SLOTS ≤ h → h ≤ t → t < (base + length ps) * BLOCK_SLOTS → HoldsItems ps base h t
    → HoldsItems (set_item ps base t WRITE (Some v)) base h (t + 1)
HoldsItems-push {T} ps base first h t v linked low order high holds =
    record {
      read = λ n from before. other n from (λ e. omega arith) ∙ holds.read n from before;
      written = λ n from before. written n from before (same_or_not n t);
      free = λ n from before. other n (omega arith) (λ e. omega arith) ∙ holds.free n (omega arith) (let long = length-set ps i p in omega arith);
    }
  where
    i : ℕ
    i = t / BLOCK_SLOTS - base

    p : Piece T
    p = record (piece_at ps i) { states = slice_set (piece_at ps i).states (t % BLOCK_SLOTS) WRITE; slots = slice_set (piece_at ps i).slots (t % BLOCK_SLOTS) (Some v) }

    other : (n : ℕ) → base * BLOCK_SLOTS ≤ n → n ≢ t → cell_of (set_item ps base t WRITE (Some v)) base n ≡ cell_of ps base n
    other n from differs = item-other ps base first t WRITE (Some v) linked (omega arith) high n from differs

    written : (n : ℕ) → h ≤ n → n < t + 1 → (n ≡ t) ⊎ (n ≢ t) → (x : T) × (cell_of (set_item ps base t WRITE (Some v)) base n ≡ (WRITE, Some x))
    written n from before (inl e) = rw e (v, item-same ps base first t WRITE (Some v) linked (omega arith) high)
    written n from before (inr differs) = let old = holds.written n from (omega arith) in (old.0, other n (omega arith) differs ∙ old.1)

-- the front is read
pub HoldsItems-pop : {T : Type 0} (ps : List (Piece T)) (base first h t : ℕ) → Linked first ps → base * BLOCK_SLOTS ≤ h → h < t → h < (base + length ps) * BLOCK_SLOTS → HoldsItems ps base h t
    → HoldsItems (set_item ps base h (bit_or WRITE READ) None) base (h + 1) t
HoldsItems-pop {T} ps base first h t linked low order high holds =
    record {
      read = λ n from before. read n from before (same_or_not n h);
      written = λ n from before. let old = holds.written n (omega arith) before in (old.0, other n (omega arith) (λ e. omega arith) ∙ old.1);
      free = λ n from before. other n (omega arith) (λ e. omega arith) ∙ holds.free n from (let long = length-set ps i p in omega arith);
    }
  where
    i : ℕ
    i = h / BLOCK_SLOTS - base

    p : Piece T
    p = record (piece_at ps i) { states = slice_set (piece_at ps i).states (h % BLOCK_SLOTS) (bit_or WRITE READ); slots = slice_set (piece_at ps i).slots (h % BLOCK_SLOTS) None }

    other : (n : ℕ) → base * BLOCK_SLOTS ≤ n → n ≢ h → cell_of (set_item ps base h (bit_or WRITE READ) None) base n ≡ cell_of ps base n
    other n from differs = item-other ps base first h (bit_or WRITE READ) None linked low high n from differs

    read : (n : ℕ) → base * BLOCK_SLOTS ≤ n → n < h + 1 → (n ≡ h) ⊎ (n ≢ h) → cell_of (set_item ps base h (bit_or WRITE READ) None) base n ≡ (bit_or WRITE READ, None)
    read n from before (inl e) = rw e (item-same ps base first h (bit_or WRITE READ) None linked low high)
    read n from before (inr differs) = other n from differs ∙ holds.read n from (omega arith)
