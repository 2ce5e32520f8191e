-- How a chain of blocks with one owner begins, and what is left of it once it has no items.
use Rattle.std.proofs.Common.{◌≡◌, ◌≢◌, ◌⊎◌, ℕ, zero, suc, ◌+◌, ◌-◌, ◌*◌, ◌/◌, ◌%◌, ◌<◌, ◌≤◌, List, [], ◌∷◌, length, replicate, bit_or, Option, Some, None, refl, arith, sym, ap, ◌∙◌, subst, inl, inr, get_or, set}
use Rattle.std.proofs.lemmas.List.{get_or-replicate, get_or-set_same, get_or-set_other, length-set, get_or_past}
use Rattle.queue_steps.specs.declared.{sizes.TheConstants.LIMIT, sizes.TheConstants.BLOCK_SLOTS, sizes.TheConstants.BLOCK_POSITIONS, steps.ring.TheConstants.TAIL_STEP, steps.chain.TheConstants.WRITE, steps.chain.TheConstants.READ}
use Rattle.queue_steps.specs.{Words.position_of, ChainWords.offset_of, ChainWords.items_before}
use Rattle.own_cells.specs.{declared.chain.own_chain.Name.Name, OneRing.Laws.Numbers.same_or_not}
use Rattle.own_cells.specs.OneChain.{OwnChainCells.Piece, OwnChainCells.OwnChain, OwnChainCells.Named, OwnChainCells.piece_at, OwnChainCells.piece_of, OwnChainCells.state_in, OwnChainCells.item_in, OwnChainCells.IsEmptied, Laws.OwnChainChains.IsEmptied-all, Laws.OwnChainSequential.length-items}
use Rattle.own_cells.specs.OneChain.OwnChainOwned.{taken, accepted, cell_of, own_chain_queue, HoldsItems, Linked, IsBare, IsLaid, IsIdle}

-- the states of a block whose first k slots count as read
pub record HasRead (states : List ℕ) (k : ℕ) : Type 0 where
  pub long : length states ≡ BLOCK_SLOTS
  pub read : (j : ℕ) → j < k → get_or states j 0 ≡ bit_or WRITE READ
  pub free : (j : ℕ) → k ≤ j → get_or states j 0 ≡ 0

abbrev pub unread : List ℕ
unread = replicate BLOCK_SLOTS 0

pub HasRead-none : HasRead unread 0
HasRead-none = record { long = refl; read = λ j h. absurd (omega arith); free = λ j h. all j (cases j) }
  where
    cases : (j : ℕ) → (j < BLOCK_SLOTS) ⊎ (BLOCK_SLOTS ≤ j)
    cases j = grind arith

    all : (j : ℕ) → (j < BLOCK_SLOTS) ⊎ (BLOCK_SLOTS ≤ j) → get_or unread j 0 ≡ 0
    all j (inl below) = get_or-replicate BLOCK_SLOTS j 0 0 below
    all j (inr past) = get_or_past unread j 0 past

pub HasRead-more : (states : List ℕ) (k : ℕ) → k < BLOCK_SLOTS → HasRead states k → HasRead (set states k (bit_or WRITE READ)) (k + 1)
HasRead-more states k below h = record {
  long = length-set states k (bit_or WRITE READ) ∙ h.long;
  read = λ j under. go j under (same_or_not j k);
  free = λ j from. get_or-set_other states k j (bit_or WRITE READ) 0 (λ same. omega arith) ∙ h.free j (omega arith);
}
  where
    go : (j : ℕ) → j < k + 1 → (j ≡ k) ⊎ (j ≢ k) → get_or (set states k (bit_or WRITE READ)) j 0 ≡ bit_or WRITE READ
    go j under (inl same) = rw same (get_or-set_same states k (bit_or WRITE READ) 0 (omega (arith, h.long)))
    go j under (inr other) = get_or-set_other states k j (bit_or WRITE READ) 0 other ∙ h.read j (omega arith)

-- the word of the position where the item n stands
abbrev pub word_before : ℕ → ℕ
word_before n = (n / BLOCK_SLOTS * BLOCK_POSITIONS + n % BLOCK_SLOTS) * TAIL_STEP

offset-before : (n : ℕ) → offset_of (word_before n) ≡ n % BLOCK_SLOTS
offset-before n =
    let half : position_of (word_before n) ≡ n / BLOCK_SLOTS * BLOCK_POSITIONS + n % BLOCK_SLOTS = omega arith in
    rw half (omega arith)

items-before : (n : ℕ) → items_before (position_of (word_before n)) ≡ n
items-before n =
    let half : position_of (word_before n) ≡ n / BLOCK_SLOTS * BLOCK_POSITIONS + n % BLOCK_SLOTS = omega arith in
    let block : (n / BLOCK_SLOTS * BLOCK_POSITIONS + n % BLOCK_SLOTS) / BLOCK_POSITIONS ≡ n / BLOCK_SLOTS = omega arith in
    let offset : (n / BLOCK_SLOTS * BLOCK_POSITIONS + n % BLOCK_SLOTS) % BLOCK_POSITIONS ≡ n % BLOCK_SLOTS = omega arith in
    rw half (rw (block, offset) (omega arith))

module _ {T : Type 0} where
  abbrev pub begun_piece : Name T → List ℕ → Piece T
  begun_piece b states = record { name = b; next = None; states = states; slots = replicate BLOCK_SLOTS None }

  -- a chain whose positions stand as after n items, in one block
  abbrev pub begun : Name T → List ℕ → ℕ → OwnChain T
  begun b states n = record { head = word_before n; tail = word_before n; head_block = Some b; tail_block = Some b; first = 0; pieces = begun_piece b states ∷ []; spare = None }

  -- the cell of an item of the first block
  begun-cell : (b : Name T) (states : List ℕ) (n m state : ℕ) → m / BLOCK_SLOTS ≡ n / BLOCK_SLOTS → get_or states (m % BLOCK_SLOTS) 0 ≡ state
      → cell_of (begun_piece b states ∷ []) (n / BLOCK_SLOTS) m ≡ (state, None)
  begun-cell b states n m state same is =
      let first : m / BLOCK_SLOTS - n / BLOCK_SLOTS ≡ 0 = omega arith in
      let none : Option T = None in
      let empty : get_or (replicate BLOCK_SLOTS none) (m % BLOCK_SLOTS) none ≡ none = get_or-replicate BLOCK_SLOTS (m % BLOCK_SLOTS) none none (omega arith) in
      let Cell : ℕ → ℕ × Option T = λ i. (state_in (piece_at (begun_piece b states ∷ []) i) (m % BLOCK_SLOTS), item_in (piece_at (begun_piece b states ∷ []) i) (m % BLOCK_SLOTS)) in
      ap Cell first ∙ ap (λ o. (get_or states (m % BLOCK_SLOTS) 0, o)) empty ∙ ap (λ s. (s, None)) is

  begun-holds : (b : Name T) (states : List ℕ) (n : ℕ) → HasRead states (n % BLOCK_SLOTS) → HoldsItems (begun_piece b states ∷ []) (n / BLOCK_SLOTS) n n
  begun-holds b states n h = record {
    read = λ m from before. begun-cell b states n m (bit_or WRITE READ) (omega arith) (h.read (m % BLOCK_SLOTS) (omega arith));
    written = λ m from before. absurd (omega arith);
    free = λ m from before. begun-cell b states n m 0 (omega arith) (h.free (m % BLOCK_SLOTS) (omega arith));
  }

  begun-linked : (b : Name T) (states : List ℕ) → b.number ≡ 0 → length states ≡ BLOCK_SLOTS → Linked 0 (begun_piece b states ∷ [])
  begun-linked b states numbered long = record {
    states = λ i below. at_first (λ p. length p.states ≡ BLOCK_SLOTS) i below long;
    slots = λ i below. at_first (λ p. length p.slots ≡ BLOCK_SLOTS) i below refl;
    number = λ i below. number i below;
    next = λ i below. absurd (omega arith);
    end = λ i last. at_first (λ p. p.next ≡ None) i (omega arith) refl;
  }
    where
      ps : List (Piece T)
      ps = begun_piece b states ∷ []

      at_first : (P : Piece T → Type 0) (i : ℕ) → i < 1 → P (begun_piece b states) → P (piece_at ps i)
      at_first P zero below p = p
      at_first P (suc i) below p = absurd (omega arith)

      number : (i : ℕ) → i < 1 → (piece_at ps i).name.number ≡ 0 + i
      number zero below = numbered
      number (suc i) below = absurd (omega arith)

  pub begun-idle : (b : Name T) (states : List ℕ) (n : ℕ) → b.number ≡ 0 → n ≤ LIMIT → HasRead states (n % BLOCK_SLOTS) → IsIdle (begun b states n)
  begun-idle b states n numbered below h =
      let offset = offset-before n in
      let count = items-before n in
      let rests : n % BLOCK_SLOTS < BLOCK_SLOTS = omega arith in
      record {
        head_rests = rw offset rests;
        tail_rests = rw offset rests;
        order = omega arith;
        below = rw count below;
        known = λ odd. absurd (omega arith);
        few = rw count (omega arith);
        no_spare = refl;
        blocks = inr (rw count (laid (begun-linked b states numbered h.long) (begun-holds b states n h)));
      }
    where
      back : (i : ℕ) → i + 1 ≡ 1 → Some b ≡ Some (piece_at (begun_piece b states ∷ []) i).name
      back zero last = refl
      back (suc i) last = absurd (omega arith)

      laid : Linked 0 (begun_piece b states ∷ []) → HoldsItems (begun_piece b states ∷ []) (n / BLOCK_SLOTS) n n → IsLaid 0 (begun_piece b states ∷ []) (Some b) (Some b) n n
      laid linked holds = record { count = omega arith; linked = linked; front = refl; back = back; holds = holds }

  -- a chain that has no items: no block, or one whose slots are empty
  abbrev pub IsUsedUp : OwnChain T → Type 0
  IsUsedUp r = ((r.head_block ≡ None) × (r.pieces ≡ [])) ⊎ ((p : Piece T) × (r.head_block ≡ Some p.name) × (r.pieces ≡ p ∷ []) × IsEmptied p.slots × (p.name.number ≡ r.first))

  used_up : (r : OwnChain T) (ps : List (Piece T)) → taken r ≡ accepted r → r.pieces ≡ ps → IsLaid r.first ps r.head_block r.tail_block (taken r) (accepted r) → IsUsedUp r
  used_up r [] all is l = absurd (omega (arith, l.count))
  used_up r (p ∷ (q ∷ ps)) all is l = absurd (omega (arith, l.count))
  used_up r (p ∷ []) all is l = inr (p, l.front, is, IsEmptied-all p.slots empty, l.linked.number 0 (omega arith) ∙ plus_none)
    where
      base : ℕ
      base = taken r / BLOCK_SLOTS

      plus_none : r.first + 0 ≡ r.first
      plus_none = omega arith

      cases : (n h : ℕ) → (n < h) ⊎ (h ≤ n)
      cases n h = grind arith

      cell : (j : ℕ) → j < BLOCK_SLOTS → (cell_of (p ∷ []) base (base * BLOCK_SLOTS + j)).1 ≡ get_or p.slots j None
      cell j below =
          let first : (base * BLOCK_SLOTS + j) / BLOCK_SLOTS - base ≡ 0 = omega arith in
          let slot : (base * BLOCK_SLOTS + j) % BLOCK_SLOTS ≡ j = omega arith in
          let Item : ℕ → ℕ → Option T = λ i k. item_in (piece_at (p ∷ []) i) k in
          ap (λ i. Item i ((base * BLOCK_SLOTS + j) % BLOCK_SLOTS)) first ∙ ap (Item 0) slot

      no_item : (n : ℕ) → base * BLOCK_SLOTS ≤ n → n < (base + 1) * BLOCK_SLOTS → (n < taken r) ⊎ (taken r ≤ n) → (cell_of (p ∷ []) base n).1 ≡ None
      no_item n from to (inl before) = ap (λ c. c.1) (l.holds.read n from before)
      no_item n from to (inr after) = ap (λ c. c.1) (l.holds.free n (rw all at after) to)

      empty : (j : ℕ) → j < length p.slots → get_or p.slots j None ≡ None
      empty j below =
          let long : length p.slots ≡ BLOCK_SLOTS = l.linked.slots 0 (omega arith) in
          let under : j < BLOCK_SLOTS = omega arith in
          sym (cell j under) ∙ no_item (base * BLOCK_SLOTS + j) (omega arith) (omega arith) (cases (base * BLOCK_SLOTS + j) (taken r))

  pub idle-used_up : (r : OwnChain T) → IsIdle r → (own_chain_queue r).items ≡ [] → IsUsedUp r
  idle-used_up r i none =
      let long : 0 ≡ accepted r - taken r = ap length (sym none) ∙ length-items r i in
      let all : taken r ≡ accepted r = omega (arith, i.order) in
      go all i.blocks
    where
      go : taken r ≡ accepted r → IsBare r.first r.pieces r.head_block r.tail_block (accepted r) ⊎ IsLaid r.first r.pieces r.head_block r.tail_block (taken r) (accepted r) → IsUsedUp r
      go all (inl h) = inl (h.front, h.none)
      go all (inr l) = used_up r r.pieces all refl l

  -- the last block that is held, and its slots
  pub used_up-last : (r : OwnChain T) (last : Name T) → IsUsedUp r → r.head_block ≡ Some last → Named r last × IsEmptied (piece_of r last).slots
  used_up-last r last (inl h) is = cc
  used_up-last r last (inr h) is =
      let p : Piece T = h.0 in
      let name : p.name ≡ last = cc (h.1, is) in
      let numbered : last.number ≡ r.first = ap (λ n. n.number) (sym name) ∙ h.4 in
      let one : length r.pieces ≡ 1 = ap length h.2 in
      let first : last.number - r.first ≡ 0 = omega arith in
      let here : piece_of r last ≡ p = ap (λ i. piece_at r.pieces i) first ∙ ap (λ ps. piece_at ps 0) h.2 in
      ((omega arith, omega arith, ap (λ q. q.name) here ∙ name), subst (λ q. IsEmptied q.slots) (sym here) h.3)
