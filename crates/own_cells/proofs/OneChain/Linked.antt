-- Raw blocks under the names that a call has of them, and what each step on one does to what a contract sees.
use Rattle.std.proofs.Common.{◌≡◌, ◌≢◌, ◌⊎◌, ℕ, ◌+◌, ◌-◌, ◌<◌, ◌≤◌, true, false, List, [], length, Option, Some, None, IsSome, refl, arith, sym, ap, ◌∙◌, subst, inl, inr, set, bit_or, eqb}
use Rattle.std.proofs.lemmas.{List.get_or-set_same, List.get_or-set_other, List.length-set, List.set-set, Bool.Decides.eqb_tells}
use Rattle.atomic_table.proofs.Lists.{set_here}
use mathlib.Core.Option.{some}
use lib.ListN.{get_elem?}
use denote.RawPtr.{Ptr, block_ptr, null_ptr, InBlock}
use Rattle.mem_blocks.specs.Web.{Block, Home, Content, vacant, full, block, Lives, HoldsWord, Rests, word_of, with_word, with_next, with_home, worded, linked, homed}
use Rattle.mem_blocks.specs.declared.{sizes.TheConstants.SLOTS, chain.Chain.Chain, block.BlockPtr.BlockPtr as Place}
use Rattle.queue_steps.specs.declared.steps.types.{Answer.Answer, Answer.Answer as answer, Link.Link as link, Op.Op as op, Word.Word as word}
use Rattle.own_cells.specs.declared.chain.own_chain.{Name.Name, OwnChain.TheInside.Inside}
use Rattle.own_cells.specs.OneChain.OwnChainCells.{Piece, OwnChain, Named, CanFollow, piece_of, with_piece, item_in, state_in, exchanged, own_chain_performed}
use Rattle.own_cells.specs.OneChain.OwnChain.{IsHeld, IsLinked, own_chain_view, name_at, linked_name, piece, pieces_of, contents, at_home}
use Rattle.own_cells.proofs.OneChain.Pieces.{length-pieces_of, at-pieces_of, set-pieces_of, length-contents, set-contents, set-at_home, get-at_home}

module _ {T : Type 0} where
  -- a word is written
  pub worded-held : (x : Block T) (slot n : ℕ) → IsHeld x → IsHeld (worded x slot n)
  worded-held x slot n h = record { alive = h.alive; place = h.place; words = length-set x.words slot n ∙ h.words; homes = h.homes; home = h.home }

  -- a link is written
  pub linked-held : (x : Block T) (q : Ptr) → IsHeld x → IsHeld (linked x q)
  linked-held x q h = record { alive = h.alive; place = h.place; words = h.words; homes = h.homes; home = h.home }

  -- a link into a block names the block behind
  pub linked_name-block : (n : ℕ) (p : Ptr) → InBlock p → linked_name {T = T} n p ≡ Some (name_at n p)
  linked_name-block n (block_ptr b o) h = refl
  linked_name-block n null_ptr h = absurd h

  pub linked_name-some : (n : ℕ) (p : Ptr) → IsSome (linked_name {T = T} n p) → linked_name {T = T} n p ≡ Some (name_at n p)
  linked_name-some n (block_ptr b o) h = refl
  linked_name-some n null_ptr h = cc

  -- a slot's content is changed
  pub homed-held : (x : Block T) (slot : ℕ) (c : Content T) → IsHeld x → IsHeld (homed x slot (Some c))
  homed-held x slot c h = record {
    alive = h.alive;
    place = h.place;
    words = h.words;
    homes = length-set x.homes slot (Some c) ∙ h.homes;
    home = ap at_home (set-contents x.homes slot (Some c)) ∙ set-at_home (contents x.homes) slot c ∙ ap (λ hs. set hs slot (Some c)) h.home;
  }

  -- twice at one slot
  pub home-twice : (bs : List (Block T)) (n slot : ℕ) (h j : Home T) → n < length bs → with_home (with_home bs n slot h) n slot j ≡ with_home bs n slot j
  home-twice bs n slot h j below =
      let x : Block T = homed (block bs n) slot h in
      ap (λ y. set (set bs n x) n (homed y slot j)) (get_or-set_same bs n x (block [] 0) below)
      ∙ set-set bs n x (homed x slot j)
      ∙ ap (λ hs. set bs n (record (block bs n) { homes = hs })) (set-set (block bs n).homes slot h j)

module _ {T A : Type 0} where
  -- the number from which on blocks are held
  abbrev pub oldest : Inside T A → ℕ
  oldest s = s.laid - s.held

  -- the blocks that were laid
  abbrev pub blocks_in : Inside T A → List (Block T)
  blocks_in s = s.chain.blocks

  -- the block of a name
  abbrev pub block_of : Inside T A → Name T → Block T
  block_of s b = block s.chain.blocks b.number

  -- a name stands for a block that is held
  pub record Knows (s : Inside T A) (b : Name T) : Type 0 where
    pub from : oldest s ≤ b.number
    pub below : b.number < s.laid
    pub piece : piece_of (own_chain_view s) b ≡ piece b.number (block_of s b)
    pub held : IsHeld (block_of s b)
    pub place : (block_of s b).at ≡ b.link.ptr

  pub Knows-named : (s : Inside T A) (b : Name T) → IsLinked s → Named (own_chain_view s) b → Knows s b
  Knows-named s b i h =
      let count = length-pieces_of (oldest s) s.chain.blocks in
      let under : b.number < s.laid = omega (arith, count, i.laid, i.held, h.1) in
      let under_blocks : b.number < length s.chain.blocks = omega (arith, i.laid) in
      let is : piece_of (own_chain_view s) b ≡ piece b.number (block_of s b) = at-pieces_of (oldest s) s.chain.blocks b.number h.0 under_blocks in
      record {
        from = h.0;
        below = under;
        piece = is;
        held = i.blocks b.number h.0 under;
        place = ap (λ p. p.name.link.ptr) (sym is) ∙ ap (λ n. n.link.ptr) h.2;
      }

  -- its block is in the chain
  pub lives : (s : Inside T A) (b : Name T) → Knows s b → Lives s.chain.blocks b.number b.link.ptr
  lives s b k = (k.held.alive, k.place)

  -- it has a word for each of its slots
  pub holds_word : (s : Inside T A) (b : Name T) (slot : ℕ) → Knows s b → slot < SLOTS → HoldsWord s.chain.blocks b.number b.link.ptr slot
  holds_word s b slot k below = (lives s b k, omega (arith, below, k.held.words))

  pub in_block : (s : Inside T A) (b : Name T) → Knows s b → InBlock b.link.ptr
  in_block s b k = subst InBlock k.place k.held.place

  -- its slot has its content
  pub rests : (s : Inside T A) (b : Name T) (slot : ℕ) → Knows s b → slot < SLOTS → Rests s.chain.blocks b.number slot (item_in (piece_of (own_chain_view s) b) slot)
  rests s b slot k below =
      let homes : List (Home T) = (block_of s b).homes in
      let long : length (contents homes) ≡ SLOTS = length-contents homes ∙ k.held.homes in
      ap (λ hs. get_elem? hs slot) (sym k.held.home)
      ∙ get-at_home (contents homes) slot (omega arith)
      ∙ ap (λ p. some (Some (item_in p slot))) (sym k.piece)

  -- what a slot has at home is its content
  pub item-at_home : (s : Inside T A) (b : Name T) (slot : ℕ) (x : T) → Knows s b → slot < SLOTS → Rests s.chain.blocks b.number slot (Some x) → item_in (piece_of (own_chain_view s) b) slot ≡ Some x
  item-at_home s b slot x k below is = let home = rests s b slot k below in cc

  -- a block that is held is changed
  pub set-linked : (s : Inside T A) (n : ℕ) (x : Block T) (new : Chain T A) → IsLinked s → n < s.laid → IsHeld x → new.heap ≡ s.chain.heap → new.blocks ≡ set s.chain.blocks n x → IsLinked (record s { chain = new })
  set-linked s n x new i below held heap is = record {
    heap = heap ∙ i.heap;
    laid = ap length is ∙ length-set s.chain.blocks n x ∙ i.laid;
    short = i.short;
    held = i.held;
    blocks = λ j from under. subst (λ bs. IsHeld (block bs j)) (sym is) (go j from under (eqb_tells j n));
    spare = i.spare;
  }
    where
      none : Block T
      none = block [] 0

      go : (j : ℕ) → oldest s ≤ j → j < s.laid → ((eqb j n ≡ true) × (j ≡ n)) ⊎ ((eqb j n ≡ false) × (j ≢ n)) → IsHeld (block (set s.chain.blocks n x) j)
      go j from under (inl same) = subst IsHeld (sym (ap (block (set s.chain.blocks n x)) same.1 ∙ get_or-set_same s.chain.blocks n x (block [] 0) (omega (arith, i.laid)))) held
      go j from under (inr other) = subst IsHeld (sym (get_or-set_other s.chain.blocks n j x (block [] 0) other.1)) (i.blocks j from under)

  pub set-view : (s : Inside T A) (b : Name T) (x : Block T) (new : Chain T A) → oldest s ≤ b.number → new.blocks ≡ set s.chain.blocks b.number x → own_chain_view (record s { chain = new }) ≡ with_piece (own_chain_view s) b (piece b.number x)
  set-view s b x new from is =
      let F : List (Piece T) → OwnChain T = λ ps. record (own_chain_view s) { pieces = ps } in
      ap (λ bs. F (pieces_of (oldest s) bs)) is ∙ ap F (set-pieces_of (oldest s) s.chain.blocks b.number x from)

  -- a word is read
  pub word-read : (s : Inside T A) (b : Name T) (slot found : ℕ) (new : Chain T A) → Knows s b → (new ≡ s.chain) × (found ≡ word_of s.chain.blocks b.number slot)
      → (answer.Found found, own_chain_view (record s { chain = new })) ≡ own_chain_performed (own_chain_view s) (op.Load (word.State b slot))
  word-read s b slot found new k h =
      let N : Chain T A → Answer (Name T) × OwnChain T = λ x. (answer.Found found, own_chain_view (record s { chain = x })) in
      let G : ℕ → Answer (Name T) × OwnChain T = λ n. (answer.Found n, own_chain_view s) in
      let F : Piece T → Answer (Name T) × OwnChain T = λ p. (answer.Found (state_in p slot), own_chain_view s) in
      ap N h.0 ∙ ap G h.1 ∙ ap F (sym k.piece)

  -- bits of a word are set
  pub bits-set : (s : Inside T A) (b : Name T) (slot bits found : ℕ) (new : Chain T A) → Knows s b → found ≡ word_of s.chain.blocks b.number slot
      → new.blocks ≡ with_word s.chain.blocks b.number slot (bit_or found bits)
      → (answer.Found found, own_chain_view (record s { chain = new })) ≡ own_chain_performed (own_chain_view s) (op.Or (word.State b slot) bits)
  bits-set s b slot bits found new k was is =
      let r : OwnChain T = own_chain_view s in
      let x : Block T = block_of s b in
      let G : ℕ → Answer (Name T) × OwnChain T = λ n. (answer.Found n, with_piece r b (piece b.number (worded x slot (bit_or n bits)))) in
      let F : Piece T → Answer (Name T) × OwnChain T = λ p. (answer.Found (state_in p slot), with_piece r b (record p { states = set p.states slot (bit_or (state_in p slot) bits) })) in
      ap (λ l. (answer.Found found, l)) (set-view s b (worded x slot (bit_or found bits)) new k.from is) ∙ ap G was ∙ ap F (sym k.piece)

  -- a block that is not the last is linked to the one behind
  pub links_on : (s : Inside T A) (b last : Name T) → s.tail_block ≡ Some last → last.number ≢ b.number → CanFollow (own_chain_view s) b → IsSome (piece_of (own_chain_view s) b).next
  links_on s b last is other can = go can.1.2
    where
      end : Name T
      end = can.1.0

      go : ((end.number ≡ b.number) × ((piece_of (own_chain_view s) b).next ≡ None)) ⊎ ((end.number ≢ b.number) × IsSome (piece_of (own_chain_view s) b).next) → IsSome (piece_of (own_chain_view s) b).next
      go (inl h) =
          let same : end ≡ last = cc (can.1.1, is) in
          absurd (other (ap (λ n. n.number) (sym same) ∙ h.0))
      go (inr h) = h.1

  -- a link is read
  pub next-read : (s : Inside T A) (b : Name T) (found : Place T) → Knows s b → IsSome (piece_of (own_chain_view s) b).next → found.ptr ≡ (block_of s b).next
      → Some (record { number = b.number + 1; link = found }) ≡ (piece_of (own_chain_view s) b).next
  next-read s b found k there is =
      let next : Option (Name T) = (piece b.number (block_of s b)).next in
      let here : IsSome next = subst (λ p. IsSome p.next) k.piece there in
      ap (λ p. Some (name_at (b.number + 1) p)) is ∙ sym (linked_name-some (b.number + 1) (block_of s b).next here) ∙ ap (λ p. p.next) (sym k.piece)

  -- a link is written
  pub next-set : (s : Inside T A) (b after : Name T) (new : Chain T A) → Knows s b → Knows s after → after.number ≡ b.number + 1
      → new.blocks ≡ with_next s.chain.blocks b.number after.link.ptr
      → (answer.Done, own_chain_view (record s { chain = new })) ≡ own_chain_performed (own_chain_view s) (op.StoreLink (link.Next b) after)
  next-set s b after new k a follows is =
      let r : OwnChain T = own_chain_view s in
      let x : Block T = block_of s b in
      let p : Ptr = after.link.ptr in
      let named : linked_name (b.number + 1) p ≡ Some after = ap (λ n. linked_name n p) (sym follows) ∙ linked_name-block after.number p (in_block s after a) in
      let G : Option (Name T) → Answer (Name T) × OwnChain T = λ n. (answer.Done, with_piece r b (record (piece b.number x) { next = n })) in
      let F : Piece T → Answer (Name T) × OwnChain T = λ q. (answer.Done, with_piece r b (record q { next = Some after })) in
      ap (λ l. (answer.Done, l)) (set-view s b (linked x p) new k.from is) ∙ ap G named ∙ ap F (sym k.piece)

  -- a slot's content is changed
  pub home-set : (s : Inside T A) (b : Name T) (slot : ℕ) (c : Content T) (new : Chain T A) → Knows s b → new.blocks ≡ with_home s.chain.blocks b.number slot (Some c)
      → own_chain_view (record s { chain = new }) ≡ (exchanged (own_chain_view s) (Some b) slot c).0
  home-set s b slot c new k is =
      let r : OwnChain T = own_chain_view s in
      let x : Block T = block_of s b in
      let G : List (Option T) → OwnChain T = λ cs. with_piece r b (record (piece b.number x) { slots = cs }) in
      let F : Piece T → OwnChain T = λ p. with_piece r b (record p { slots = set p.slots slot c }) in
      set-view s b (homed x slot (Some c)) new k.from is ∙ ap G (set-contents x.homes slot (Some c)) ∙ ap F (sym k.piece)

  -- an item is put into an empty slot
  pub put-result : (s : Inside T A) (b : Name T) (slot : ℕ) (item : T) (new : Chain T A) (carried left : Option T) → Knows s b
      → item_in (piece_of (own_chain_view s) b) slot ≡ None → carried ≡ Some item → left ≡ None → new.blocks ≡ with_home s.chain.blocks b.number slot (full item)
      → (own_chain_view (record s { chain = new }), left) ≡ exchanged (own_chain_view s) (Some b) slot carried
  put-result s b slot item new carried left k empty was gone is =
      let r : OwnChain T = own_chain_view s in
      let F : Option T → OwnChain T × Option T = λ o. ((exchanged r (Some b) slot (Some item)).0, o) in
      ap (λ l. (l, left)) (home-set s b slot (Some item) new k is) ∙ ap F (gone ∙ sym empty) ∙ ap (exchanged r (Some b) slot) (sym was)

  -- an item is taken out of a full slot, where the call's own content goes
  pub take-result : (s : Inside T A) (b : Name T) (slot : ℕ) (item : T) (new : Chain T A) (carried left : Option T) → Knows s b → slot < SLOTS
      → Rests s.chain.blocks b.number slot (Some item) → left ≡ Some item → new.blocks ≡ with_home s.chain.blocks b.number slot (Some carried)
      → (own_chain_view (record s { chain = new }), left) ≡ exchanged (own_chain_view s) (Some b) slot carried
  take-result s b slot item new carried left k below rest got is =
      let r : OwnChain T = own_chain_view s in
      let here = rests s b slot k below in
      let same : item_in (piece_of r b) slot ≡ Some item = cc in
      let F : Option T → OwnChain T × Option T = λ o. ((exchanged r (Some b) slot carried).0, o) in
      ap (λ l. (l, left)) (home-set s b slot carried new k is) ∙ ap F (got ∙ sym same)

  -- once it is taken, the slot is empty
  pub emptied : (s : Inside T A) (b : Name T) (slot : ℕ) (new : Chain T A) → IsLinked s → Knows s b → slot < SLOTS → new.blocks ≡ with_home s.chain.blocks b.number slot vacant
      → Lives new.blocks b.number b.link.ptr × Rests new.blocks b.number slot None
  emptied s b slot new i k below is =
      let x : Block T = homed (block_of s b) slot vacant in
      let here : block new.blocks b.number ≡ x = ap (λ y. block y b.number) is ∙ get_or-set_same s.chain.blocks b.number x (block [] 0) (omega (arith, k.below, i.laid)) in
      let Fine : Block T → Type 0 = λ y. ((y.alive ≡ true) × (y.at ≡ b.link.ptr)) × (get_elem? y.homes slot ≡ some vacant) in
      subst Fine (sym here) (lives s b k, set_here (block_of s b).homes slot vacant (omega (arith, k.held.homes)))
