-- The blocks of a web that stand for a chain on which no call is on its way, from the front's on: they are a chain with one owner, in the same state.
use Rattle.std.proofs.Common.{◌≡◌, ◌⊎◌, ◌∙◌, inl, inr, ℕ, zero, suc, ◌+◌, ◌-◌, ◌*◌, ◌/◌, ◌%◌, ◌<◌, ◌≤◌, Bool, true, List, [], ◌∷◌, length, drop, get_or, slice_get, Option, Some, None, refl, sym, ap, subst, arith}
use Rattle.std.proofs.lemmas.List.{get_or-drop, length-drop}
use mathlib.Core.Option.{some, some-injective}
use lib.ListN.{get_elem?}
use denote.RawPtr.{Ptr, null_ptr, InBlock}
use Rattle.queue_laws.specs.{Common.Vocabulary.BLOCK_SLOTS, Common.Vocabulary.WRITE, Chain.ChainCells.Before, Chain.ChainCells.GivenUp, Chain.ChainCells.Chain, Chain.ChainCells.ChainOk, Chain.ChainCells.item_at, Chain.ChainAnswers.linked_of}
use Rattle.mem_blocks.specs.{Web.Block, Web.Home, Web.Content, Web.block, declared.block.BlockPtr.BlockPtr}
use Rattle.own_cells.specs.OneChain.{OwnChainCells.Piece, OwnChainCells.piece_at, OwnChainCells.state_in, OwnChainCells.item_in, ChainMemory.named_by, ChainMemory.AreHeld, OwnChainOwned.cell_of, OwnChainOwned.items_from, OwnChainOwned.HoldsItems, OwnChainOwned.Linked}
use Rattle.own_cells.specs.{OneChain.OwnChain.name_at, OneChain.OwnChain.linked_name, OneChain.OwnChain.content_of, OneChain.OwnChain.contents, OneChain.OwnChain.at_home, OneChain.OwnChain.piece, OneChain.OwnChain.pieces_of, OneRing.RingOwned.put_in}
use Rattle.own_cells.proofs.OneChain.Pieces.{length-pieces_of, at-pieces_of, length-contents}
use Rattle.shared_chain.specs.{Spots.spot, ChainCalls.OutChain, Ending.LeadsTo, Ending.IntoBlock, Rule.home_of, Rule.plain_state, Rule.lead_of, Rule.BlockIs, Rule.Codes}
use Rattle.shared_chain.proofs.Frames.{Blocks.alive_is, Resting.AtRest}

-- slots that are all at home
home_again : {A : Type 0} (hs : List (Home A)) → ((i : ℕ) → i < length hs → (c : Content A) × (get_elem? hs i ≡ some (Some c))) → at_home (contents hs) ≡ hs
home_again [] all = refl
home_again (None ∷ hs) all = absurd (let h = (all 0 (omega arith)).1 in cc)
home_again (Some c ∷ hs) all = ap (λ xs. Some c ∷ xs) (home_again hs (λ i lt. all (suc i) (omega arith)))

-- what lies in a slot
content_at : {A : Type 0} (hs : List (Home A)) (i : ℕ) (h : Home A) → get_elem? hs i ≡ some h → get_or (contents hs) i None ≡ content_of h
content_at [] i h e = cc
content_at (x ∷ hs) zero h e = ap content_of (some-injective x h e)
content_at (x ∷ hs) (suc i) h e = content_at hs i h e

-- items that lie one after the other from the number n on are the list of them
pub items_are : {A : Type 0} (pieces : List (Piece A)) (base k n : ℕ) (items : List A) → length items ≡ k
    → ((i : ℕ) → i < k → (v : A) × ((cell_of pieces base (n + i)).1 ≡ Some v) × (slice_get items i ≡ Some v)) → items_from pieces base n k ≡ items
items_are pieces base zero n [] long at = refl
items_are pieces base (suc k) n (x ∷ items) long at =
    let first = at 0 (omega arith) in
    let here : n + 0 ≡ n = omega arith in
    let x_is : Some first.0 ≡ Some x = sym first.2 in
    let item : (cell_of pieces base n).1 ≡ Some x = ap (λ q. (cell_of pieces base q).1) (sym here) ∙ (first.1 ∙ x_is) in
    let behind : items_from pieces base (n + 1) k ≡ items = items_are pieces base k (n + 1) items (omega (arith, long)) (λ i lt.
    let a = at (suc i) (omega arith) in
    let next : n + 1 + i ≡ n + suc i = omega arith in
    (a.0, ap (λ q. (cell_of pieces base q).1) next ∙ a.1, a.2)) in
    ap (λ o. put_in o (items_from pieces base (n + 1) k)) item ∙ ap (λ l. x ∷ l) behind
items_are pieces base k n items long at = absurd (omega (arith, long))

pub lead_named : {A : Type 0} (k : ℕ) (o : Option (BlockPtr A)) (f : ℕ) → LeadsTo o (spot f) → named_by k o ≡ Some (name_at k (spot f))
lead_named k None f e = absurd (subst InBlock e tt)
lead_named k (Some l) f e = ap (λ p. Some (name_at k p)) e

pub lead_none : {A : Type 0} (k : ℕ) (o : Option (BlockPtr A)) → IntoBlock o → LeadsTo o null_ptr → named_by k o ≡ None
lead_none k None in_block e = refl
lead_none k (Some l) in_block e = absurd (subst InBlock e in_block)

module _ {A : Type 0} (te he : Ptr) (g : OutChain A) (bs : List (Block A)) (ok : ChainOk g.chain) (codes : Codes te he g bs) (rest : AtRest g.chain) where
  abbrev c : Chain A
  c = g.chain

  -- the blocks from the front's on
  abbrev pub left : List (Block A)
  left = drop (c.front + 2) bs

  abbrev pub pieces : List (Piece A)
  pieces = pieces_of 0 left

  pub within : c.front ≤ c.blocks
  within = elim (rest.laid) [ inl z ↦ (let f = rest.front in let o = rest.order in let t = z.0 in omega arith) | inr z ↦ (let f = rest.front in let o = rest.order in omega arith) ]

  pub long : length left + c.front ≡ c.blocks
  long = let n = length-drop (c.front + 2) bs in let s = codes.size in let w = within in omega arith

  pub long_pieces : length pieces ≡ length left
  long_pieces = length-pieces_of 0 left ∙ omega arith

  left_is : (i : ℕ) → block left i ≡ block bs (c.front + i + 2)
  left_is i = let to : c.front + 2 + i ≡ c.front + i + 2 = omega arith in get_or-drop (c.front + 2) bs i (block [] 0) ∙ ap (block bs) to

  abbrev pub Stays : ℕ → Block A → Type 0
  Stays b x = (x.alive ≡ true) × (x.at ≡ spot (c.names b)) × BlockIs g b x

  pub stays : (i : ℕ) → i < length left → Stays (c.front + i) (block left i)
  stays i lt =
      let a = alive_is te he g bs (c.front + i) codes (let l = long in omega arith) (λ e. let z : Before ≡ GivenUp = sym (rest.before (c.front + i) (omega arith)) ∙ e in cc) in
      subst (Stays (c.front + i)) (sym (left_is i)) (a.0.0, a.0.1, a.1)

  which : (n h t : ℕ) → (n < h) ⊎ (((h ≤ n) × (n < t)) ⊎ (t ≤ n))
  which n h t = grind arith

  -- where no call is on its way each slot is at home
  home_is : (n : ℕ) (b : Bool) → (y : Content A) × (home_of (c.writers n) (c.readers n) b ≡ Some y)
  home_is n b = elim (which n c.head c.tail) [
    | inl lt ↦ (None, λ k. home_of ((rest.taken n lt).1.1 k) ((rest.taken n lt).0 k) b)
    | inr more ↦ elim more [
      | inl z ↦ (Some (rest.held n z.0 z.1).1.0, λ k. home_of ((rest.held n z.0 z.1).1.1 k) ((rest.held n z.0 z.1).0 k) b)
      | inr low ↦ (None, λ k. home_of ((rest.free n low).1 k) ((rest.free n low).0 k) b)
    ]
  ]

  pub all_held : AreHeld left
  all_held i lt = let a = stays i lt in record {
    alive = a.0;
    place = subst InBlock (sym a.1) tt;
    words = a.2.words;
    homes = a.2.homes;
    home = home_again (block left i).homes (λ j low. let h = home_is (item_at (c.front + i) j) (g.out (item_at (c.front + i) j)) in let l = a.2.homes in (h.0, a.2.slot j (omega arith) ∙ ap some h.1));
  }

  pub piece_is : (i : ℕ) → i < length left → piece_at pieces i ≡ piece i (block left i)
  piece_is i lt = let same : i ≡ i - 0 = omega arith in ap (piece_at pieces) same ∙ at-pieces_of 0 left i (omega arith) lt

  cell_is : (n : ℕ) → c.front * BLOCK_SLOTS ≤ n → n < c.blocks * BLOCK_SLOTS
      → cell_of pieces c.front n ≡ (plain_state (c.writers n) (c.readers n), content_of (home_of (c.writers n) (c.readers n) (g.out n)))
  cell_is n from lt =
      let i = n / BLOCK_SLOTS - c.front in
      let j = n % BLOCK_SLOTS in
      let low : j < BLOCK_SLOTS = omega arith in
      let inside : n / BLOCK_SLOTS - c.front < length left = (let l = long in omega arith) in
      let a = stays i inside in
      let here : item_at (c.front + i) j ≡ n = omega arith in
      let cell : (x : Piece A) → ℕ × Option A = λ x. (state_in x j, item_in x j) in
      let homed : get_or (contents (block left i).homes) j None ≡ content_of (home_of (c.writers (item_at (c.front + i) j)) (c.readers (item_at (c.front + i) j)) (g.out (item_at (c.front + i) j))) =
      content_at (block left i).homes j _ (a.2.slot j low) in
      ap cell (piece_is i inside)
      ∙ ((λ k. (a.2.plain (rest.before (c.front + i) (omega arith)) j low k, homed k))
      ∙ ap (λ m. (plain_state (c.writers m) (c.readers m), content_of (home_of (c.writers m) (c.readers m) (g.out m)))) here)

  pub held_is : (n : ℕ) → c.head ≤ n → n < c.tail → c.front * BLOCK_SLOTS ≤ n → n < c.blocks * BLOCK_SLOTS → (v : A) × (cell_of pieces c.front n ≡ (WRITE, Some v)) × (slice_get c.items (n - c.head) ≡ Some v)
  held_is n low lt from to =
      let h = rest.held n low lt in
      (h.1.0, cell_is n from to ∙ (λ k. (plain_state (h.1.1 k) (h.0 k), content_of (home_of (h.1.1 k) (h.0 k) (g.out n)))), h.1.2)

  pub holds : c.tail < c.blocks * BLOCK_SLOTS → HoldsItems pieces c.front c.head c.tail
  holds room = record {
    read = λ n from lt. let t = rest.taken n lt in let o = rest.order in cell_is n from (omega arith) ∙ (λ k. (plain_state (t.1.1 k) (t.0 k), content_of (home_of (t.1.1 k) (t.0 k) (g.out n))));
    written = λ n low lt. let h = held_is n low lt (let f = rest.front in omega arith) (omega arith) in (h.0, h.1);
    free = λ n low lt. let f = rest.free n low in let l = long in let p = long_pieces in let o = rest.order in let at = rest.front in
        cell_is n (omega arith) (omega arith) ∙ (λ k. (plain_state (f.1 k) (f.0 k), content_of (home_of (f.1 k) (f.0 k) (g.out n))));
  }

  pub linked : Linked 0 pieces
  linked = record {
    states = λ i lt. let below : i < length left = (let p = long_pieces in omega arith) in ap (λ (x : Piece A). length x.states) (piece_is i below) ∙ (stays i below).2.words;
    slots = λ i lt. let below : i < length left = (let p = long_pieces in omega arith) in ap (λ (x : Piece A). length x.slots) (piece_is i below) ∙ (length-contents (block left i).homes ∙ (stays i below).2.homes);
    number = λ i lt. let below : i < length left = (let p = long_pieces in omega arith) in ap (λ (x : Piece A). x.name.number) (piece_is i below) ∙ omega arith;
    next = next;
    end = end;
  }
    where
      name_is : (i : ℕ) → i < length left → (piece_at pieces i).name ≡ name_at i (spot (c.names (c.front + i)))
      name_is i lt = ap (λ (x : Piece A). x.name) (piece_is i lt) ∙ ap (name_at i) (stays i lt).1

      link_is : (i : ℕ) → i < length left → (piece_at pieces i).next ≡ linked_name (i + 1) (lead_of (linked_of (c.links (c.front + i)) (c.names (c.front + i + 1))))
      link_is i lt = ap (λ (x : Piece A). x.next) (piece_is i lt) ∙ ap (linked_name (i + 1)) (stays i lt).2.linked

      next : (i : ℕ) → i + 1 < length pieces → (piece_at pieces i).next ≡ Some (piece_at pieces (i + 1)).name
      next i lt =
          let l = long in
          let p = long_pieces in
          let more : c.front + i + 1 ≡ c.front + (i + 1) = omega arith in
          elim (rest.linked (c.front + i)) [
            | inl z ↦ link_is i (omega arith) ∙ (ap (λ y. linked_name (i + 1) (lead_of (linked_of y (c.names (c.front + i + 1))))) z.1
                ∙ (ap (λ m. Some (name_at (i + 1) (spot (c.names m)))) more ∙ ap Some (sym (name_is (i + 1) (omega arith)))))
            | inr z ↦ absurd (let w = z.0 in omega arith)
          ]

      end : (i : ℕ) → i + 1 ≡ length pieces → (piece_at pieces i).next ≡ None
      end i last =
          let l = long in
          let p = long_pieces in
          elim (rest.linked (c.front + i)) [
            | inl z ↦ absurd (let w = z.0 in omega arith)
            | inr z ↦ link_is i (omega arith) ∙ ap (λ y. linked_name (i + 1) (lead_of (linked_of y (c.names (c.front + i + 1))))) z.1
          ]
