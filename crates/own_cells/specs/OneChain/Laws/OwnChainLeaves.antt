-- What the calls leave of the queue of a chain of blocks.
use Rattle.std.specs.Prelude.{bit_or}
use Rattle.std.proofs.Common.{◌≡◌, ◌≢◌, ℕ, suc, ◌+◌, ◌-◌, ◌*◌, ◌/◌, ◌%◌, ◌<◌, ◌≤◌, true, List, [], ◌∷◌, ◌++◌, length, Option, Some, None, refl, arith, sym, ap, ◌∙◌, subst, inr}
use Rattle.queue_steps.specs.declared.{sizes.TheConstants.LIMIT, sizes.TheConstants.BLOCK_SLOTS, steps.ring.TheConstants.MARK, steps.ring.TheConstants.TAIL_STEP, steps.chain.TheConstants.WRITE, steps.chain.TheConstants.READ}
use Rattle.queue_steps.specs.{State.State, Effect.rest, ChainWords.offset_of, ChainWords.items_before, Words.IsWord, Words.position_of, Words.is_shut}
use Rattle.own_cells.specs.{declared.chain.own_chain.Name.Name, OneRing.Laws.Numbers.odd_up, OneRing.Laws.Numbers.half_mark, OneRing.Laws.Numbers.odd_mark, OneChain.OwnChainCells.Piece, OneChain.OwnChainCells.OwnChain, OneChain.OwnChainCells.piece_at, OneChain.OwnChainCells.fresh_piece}
use Rattle.own_cells.specs.OneChain.OwnChainOwned.{taken, accepted, cell_of, items_from, own_chain_queue, HoldsItems, Linked, IsBare, IsLaid, IsIdle}
use Rattle.own_cells.specs.OneChain.Laws.OwnChainKeeps.{set_item, length-set_item, name-set_item, item-same, item-other, items_from-same, items_from-more, Linked-set, HoldsItems-push, HoldsItems-pop}
use Rattle.own_cells.specs.OneChain.Laws.OwnChainChains.{lay-name, lay-name-new, laid_behind, chained, Linked-first, HoldsItems-first, Linked-lay, HoldsItems-lay, lay-same, length-chained, length-rest, piece-rest, cell-rest, Linked-rest, HoldsItems-rest}

-- the chain with a block for each item
abbrev pub Laid : {T : Type 0} → OwnChain T → Type 0
Laid r = IsLaid r.first r.pieces r.head_block r.tail_block (taken r) (accepted r)

-- a closed queue
abbrev pub marked : {T : Type 0} → OwnChain T → OwnChain T
marked r = record r { tail = bit_or r.tail MARK }

pub idle-marked : {T : Type 0} (r : OwnChain T) → IsIdle r → IsIdle (marked r)
idle-marked r i =
    record {
      head_rests = i.head_rests;
      tail_rests = rw (half_mark r.tail) i.tail_rests;
      order = rw (half_mark r.tail) i.order;
      below = rw (half_mark r.tail) i.below;
      known = rw (half_mark r.tail) i.known;
      few = rw (half_mark r.tail) i.few;
      no_spare = i.no_spare;
      blocks = rw (half_mark r.tail) i.blocks;
    }

pub queue-marked : {T : Type 0} (r : OwnChain T) → own_chain_queue (marked r) ≡ record (own_chain_queue r) { closed = true }
queue-marked r = rw (half_mark r.tail, odd_mark r.tail) refl

-- where the positions of an idle chain stand in its blocks
module _ {T : Type 0} (r : OwnChain T) (i : IsIdle r) where
  pub tail-offset : offset_of r.tail ≡ accepted r % BLOCK_SLOTS
  tail-offset = let rests = i.tail_rests in omega arith

  pub head-offset : offset_of r.head ≡ taken r % BLOCK_SLOTS
  head-offset = let rests = i.head_rests in omega arith

  pub tail-word : IsWord r.tail
  tail-word = let rests = i.tail_rests in let below = i.below in omega arith

  pub head-word : IsWord r.head
  head-word = let rests = i.head_rests in let below = i.below in let order = i.order in omega arith

  -- the next item to come has a slot in the last block
  pub room : Laid r → accepted r < (taken r / BLOCK_SLOTS + length r.pieces) * BLOCK_SLOTS
  room l = let count = l.count in omega arith

-- what holds before an item is written, with these blocks, this pushers' block and this tail, which counts the item already
pub record Ready {T : Type 0} (r : OwnChain T) (ps : List (Piece T)) (back : Option (Name T)) (tail : ℕ) : Type 0 where
  pub rests : offset_of tail < BLOCK_SLOTS
  pub counted : items_before (position_of tail) ≡ accepted r + 1
  pub shut : is_shut tail ≡ is_shut r.tail
  pub count : length ps + taken r / BLOCK_SLOTS ≡ (accepted r + 1) / BLOCK_SLOTS + 1
  pub few : r.first + length ps ≤ (accepted r + 1) / BLOCK_SLOTS + 1
  pub linked : Linked r.first ps
  pub front : r.head_block ≡ Some (piece_at ps 0).name
  pub behind : (i : ℕ) → i + 1 ≡ length ps → back ≡ Some (piece_at ps i).name
  pub holds : HoldsItems ps (taken r / BLOCK_SLOTS) (taken r) (accepted r)
  pub space : accepted r < (taken r / BLOCK_SLOTS + length ps) * BLOCK_SLOTS
  pub same : (m : ℕ) → taken r ≤ m → m < accepted r → cell_of ps (taken r / BLOCK_SLOTS) m ≡ cell_of r.pieces (taken r / BLOCK_SLOTS) m

-- one item more
abbrev pub pushed : {T : Type 0} → OwnChain T → List (Piece T) → Option (Name T) → ℕ → Option (Name T) → T → OwnChain T
pushed r ps back tail spare v = record r { tail = tail; tail_block = back; pieces = set_item ps (taken r / BLOCK_SLOTS) (accepted r) WRITE (Some v); spare = spare }

module _ {T : Type 0} (r : OwnChain T) (ps : List (Piece T)) (back : Option (Name T)) (tail : ℕ) (spare : Option (Name T)) (v : T) (i : IsIdle r) (ready : Ready r ps back tail) where
  abbrev qs : List (Piece T)
  qs = set_item ps (taken r / BLOCK_SLOTS) (accepted r) WRITE (Some v)

  inside : accepted r / BLOCK_SLOTS - taken r / BLOCK_SLOTS < length ps
  inside = let space = ready.space in let order = i.order in omega arith

  long : length qs ≡ length ps
  long = length-set_item ps (taken r / BLOCK_SLOTS) (accepted r) WRITE (Some v)

  laid : IsLaid r.first qs r.head_block back (taken r) (accepted r + 1)
  laid =
      record {
        count = rw long ready.count;
        linked = Linked-set r.first ps (accepted r / BLOCK_SLOTS - taken r / BLOCK_SLOTS) (accepted r % BLOCK_SLOTS) WRITE (Some v) inside ready.linked;
        front = ready.front ∙ ap Some (sym (name-set_item ps (taken r / BLOCK_SLOTS) (accepted r) WRITE (Some v) 0 inside));
        back = λ j last. ready.behind j (last ∙ long) ∙ ap Some (sym (name-set_item ps (taken r / BLOCK_SLOTS) (accepted r) WRITE (Some v) j inside));
        holds = HoldsItems-push ps (taken r / BLOCK_SLOTS) r.first (taken r) (accepted r) v ready.linked (omega arith) i.order ready.space ready.holds;
      }

  pub idle-pushed : accepted r < LIMIT → spare ≡ None → IsIdle (pushed r ps back tail spare v)
  idle-pushed limit no_spare =
      let order = i.order in
      record {
        head_rests = i.head_rests;
        tail_rests = ready.rests;
        order = rw ready.counted (omega arith);
        below = rw ready.counted (omega arith);
        known = λ bit. let was = i.known bit in rw ready.counted (omega arith);
        few = rw (ready.counted, long) ready.few;
        no_spare = no_spare;
        blocks = rw ready.counted (inr laid);
      }

  pub queue-pushed : own_chain_queue (pushed r ps back tail spare v) ≡ record (own_chain_queue r) { items = (own_chain_queue r).items ++ v ∷ []; accepted = (own_chain_queue r).accepted + 1 }
  queue-pushed =
      let order = i.order in
      let base : ℕ = taken r / BLOCK_SLOTS in
      let k : ℕ = accepted r - taken r in
      let more : accepted r + 1 - taken r ≡ k + 1 = omega arith in
      let end : taken r + k ≡ accepted r = omega arith in
      let here : cell_of qs base (accepted r) ≡ (WRITE, Some v) = item-same ps base r.first (accepted r) WRITE (Some v) ready.linked (omega arith) ready.space in
      let item : (cell_of qs base (accepted r)).1 ≡ Some v = ap (λ (c : ℕ × Option T). c.1) here in
      let before : items_from qs base (taken r) k ≡ items_from r.pieces base (taken r) k =
      items_from-same qs r.pieces base base (taken r) k (λ m from to. item-other ps base r.first (accepted r) WRITE (Some v) ready.linked (omega arith) ready.space m (omega arith) (λ e. omega arith) ∙ ready.same m from (omega arith)) in
      let all : items_from qs base (taken r) (k + 1) ≡ items_from r.pieces base (taken r) k ++ v ∷ [] = items_from-more qs base (taken r) k ∙ rw (end, item, before) refl in
      rw (ready.counted, ready.shut, more, all) refl

-- an item that is not the last of its block needs no other block
pub ready-here : {T : Type 0} (r : OwnChain T) → IsIdle r → Laid r → accepted r % BLOCK_SLOTS + 1 ≢ BLOCK_SLOTS → Ready r r.pieces r.tail_block (r.tail + TAIL_STEP)
ready-here r i l inner =
    let rests = i.tail_rests in
    let count = l.count in
    let few = i.few in
    record {
      rests = omega arith;
      counted = omega arith;
      shut = rw (odd_up r.tail) refl;
      count = omega arith;
      few = omega arith;
      linked = l.linked;
      front = l.front;
      behind = l.back;
      holds = l.holds;
      space = room r i l;
      same = λ m from to. refl;
    }

-- for the last item of a block another block is laid behind it
pub ready-behind : {T : Type 0} (r : OwnChain T) (k : ℕ) (b : Name T) → IsIdle r → Laid r → accepted r % BLOCK_SLOTS + 1 ≡ BLOCK_SLOTS → k + 1 ≡ length r.pieces → b.number ≡ r.first + length r.pieces
    → Ready r (chained (laid_behind r.pieces b) k b) (Some b) (r.tail + TAIL_STEP + TAIL_STEP)
ready-behind {T} r k b i l outer last is =
    let rests = i.tail_rests in
    let count = l.count in
    let few = i.few in
    let order = i.order in
    let long : length (chained (laid_behind r.pieces b) k b) ≡ length r.pieces + 1 = length-chained r.pieces r.first k b last is in
    record {
      rests = omega arith;
      counted = omega arith;
      shut = rw (odd_up (r.tail + TAIL_STEP), odd_up r.tail) refl;
      count = omega arith;
      few = omega arith;
      linked = Linked-lay r.pieces r.first k b last is l.linked;
      front = l.front ∙ ap Some (sym (lay-name r.pieces r.first k b last is 0 (omega arith)));
      behind = λ j end. let here : j ≡ length r.pieces = omega arith in rw here (ap Some (sym (lay-name-new r.pieces r.first k b last is)));
      holds = HoldsItems-lay r.pieces r.first k b last is (taken r / BLOCK_SLOTS) (taken r) (accepted r) (omega arith) order (omega arith) l.holds;
      space = omega arith;
      same = λ m from to. lay-same r.pieces r.first k b last is (taken r / BLOCK_SLOTS) m (omega arith);
    }

-- the first block was laid
abbrev pub opened : {T : Type 0} → OwnChain T → Name T → OwnChain T
opened r b = record r { head_block = Some b; tail_block = Some b; pieces = laid_behind r.pieces b; spare = None }

module _ {T : Type 0} (r : OwnChain T) (b : Name T) (i : IsIdle r) (bare : IsBare r.first r.pieces r.head_block r.tail_block (accepted r)) (is : b.number ≡ r.first + length r.pieces) where
  one : laid_behind r.pieces b ≡ fresh_piece b ∷ []
  one = let Behind : List (Piece T) → List (Piece T) = λ ps. ps ++ fresh_piece b ∷ [] in ap Behind bare.none

  numbered : b.number ≡ r.first
  numbered = let Long : List (Piece T) → ℕ = λ ps. r.first + length ps in is ∙ (ap Long bare.none ∙ omega arith)

  pub laid-opened : Laid (opened r b)
  laid-opened =
      let order = i.order in
      let unused = bare.unused in
      let none : taken r ≡ 0 = omega arith in
      let Of : List (Piece T) → Type 0 = λ ps. IsLaid r.first ps (Some b) (Some b) 0 0 in
      let OfCounts : ℕ → ℕ → Type 0 = λ h t. IsLaid r.first (laid_behind r.pieces b) (Some b) (Some b) h t in
      let fresh : Of (laid_behind r.pieces b) = subst Of (sym one) (record {
        count = refl;
        linked = Linked-first r.first b numbered;
        front = refl;
        back = λ j last. let here : j ≡ 0 = omega arith in rw here refl;
        holds = HoldsItems-first b;
      }) in
      subst (λ h. OfCounts h (accepted r)) (sym none) (subst (λ t. OfCounts 0 t) (sym unused) fresh)

  pub idle-opened : IsIdle (opened r b)
  idle-opened =
      let start = bare.start in
      let long : length (laid_behind r.pieces b) ≡ 1 = ap length one in
      record {
        head_rests = i.head_rests;
        tail_rests = i.tail_rests;
        order = i.order;
        below = i.below;
        known = i.known;
        few = omega arith;
        no_spare = refl;
        blocks = inr laid-opened;
      }

  pub queue-opened : own_chain_queue (opened r b) ≡ own_chain_queue r
  queue-opened = let unused = bare.unused in let empty : accepted r - taken r ≡ 0 = omega arith in rw empty refl

-- one item less, where the front's block has more slots
abbrev pub popped : {T : Type 0} → OwnChain T → ℕ → OwnChain T
popped r head = record r { head = head; pieces = set_item r.pieces (taken r / BLOCK_SLOTS) (taken r) (bit_or WRITE READ) None }

-- one item less, and the front's block was given up
abbrev pub passed : {T : Type 0} → OwnChain T → ℕ → OwnChain T
passed r head = record r { head = head; head_block = (piece_at r.pieces 0).next; first = r.first + 1; pieces = rest r.pieces }

-- a head after the front was taken: its bit tells nothing that is not so
pub record Moved {T : Type 0} (r : OwnChain T) (head : ℕ) : Type 0 where
  pub rests : offset_of head < BLOCK_SLOTS
  pub counted : items_before (position_of head) ≡ taken r + 1
  pub known : head % 2 ≡ 1 → (taken r + 1) / BLOCK_SLOTS < accepted r / BLOCK_SLOTS

module _ {T : Type 0} (r : OwnChain T) (head : ℕ) (i : IsIdle r) (l : Laid r) (some : taken r < accepted r) (m : Moved r head) where
  first_inside : taken r / BLOCK_SLOTS - taken r / BLOCK_SLOTS < length r.pieces
  first_inside = let count = l.count in omega arith

  -- these are the blocks after the front was taken
  idle-moved : (first : ℕ) (front : Option (Name T)) (ps : List (Piece T)) → first + length ps ≤ accepted r / BLOCK_SLOTS + 1 → IsLaid first ps front r.tail_block (taken r + 1) (accepted r)
      → IsIdle (record r { head = head; head_block = front; first = first; pieces = ps })
  idle-moved first front ps few laid = record {
    head_rests = m.rests;
    tail_rests = i.tail_rests;
    order = rw m.counted (omega arith);
    below = i.below;
    known = λ bit. rw m.counted (m.known bit);
    few = few;
    no_spare = i.no_spare;
    blocks = rw m.counted (inr laid);
  }

  pub idle-popped : taken r % BLOCK_SLOTS + 1 ≢ BLOCK_SLOTS → IsIdle (popped r head)
  idle-popped inner =
      let count = l.count in
      let base : ℕ = taken r / BLOCK_SLOTS in
      let same : (taken r + 1) / BLOCK_SLOTS ≡ base = omega arith in
      let ps : List (Piece T) = set_item r.pieces base (taken r) (bit_or WRITE READ) None in
      let long : length ps ≡ length r.pieces = length-set_item r.pieces base (taken r) (bit_or WRITE READ) None in
      let Base : ℕ → Type 0 = λ x. HoldsItems ps x (taken r + 1) (accepted r) in
      let below : taken r < (base + length r.pieces) * BLOCK_SLOTS = omega arith in
      let laid : IsLaid r.first ps r.head_block r.tail_block (taken r + 1) (accepted r) = record {
        count = omega arith;
        linked = Linked-set r.first r.pieces (taken r / BLOCK_SLOTS - base) (taken r % BLOCK_SLOTS) (bit_or WRITE READ) None first_inside l.linked;
        front = l.front ∙ ap Some (sym (name-set_item r.pieces base (taken r) (bit_or WRITE READ) None 0 first_inside));
        back = λ j last. l.back j (last ∙ long) ∙ ap Some (sym (name-set_item r.pieces base (taken r) (bit_or WRITE READ) None j first_inside));
        holds = subst Base (sym same) (HoldsItems-pop r.pieces base r.first (taken r) (accepted r) l.linked (omega arith) some below l.holds);
      } in
      idle-moved r.first r.head_block ps (let few = i.few in omega arith) laid

  pub idle-passed : taken r % BLOCK_SLOTS + 1 ≡ BLOCK_SLOTS → IsIdle (passed r head)
  idle-passed outer =
      let count = l.count in
      let base : ℕ = taken r / BLOCK_SLOTS in
      let more : (taken r + 1) / BLOCK_SLOTS ≡ base + 1 = omega arith in
      let filled : 0 < length r.pieces = omega arith in
      let long = length-rest r.pieces filled in
      let Base : ℕ → Type 0 = λ x. HoldsItems (rest r.pieces) x (taken r + 1) (accepted r) in
      let laid : IsLaid (r.first + 1) (rest r.pieces) (piece_at r.pieces 0).next r.tail_block (taken r + 1) (accepted r) = record {
        count = omega arith;
        linked = Linked-rest r.first r.pieces filled l.linked;
        front = l.linked.next 0 (omega arith) ∙ ap (λ (p : Piece T). Some p.name) (sym (piece-rest r.pieces 0 filled));
        back = λ j last. l.back (suc j) (omega arith) ∙ ap (λ (p : Piece T). Some p.name) (sym (piece-rest r.pieces j filled));
        holds = subst Base (sym more) (HoldsItems-rest r.pieces base (taken r) (accepted r) filled some (omega arith) l.holds);
      } in
      idle-moved (r.first + 1) (piece_at r.pieces 0).next (rest r.pieces) (let few = i.few in omega arith) laid

  -- the front of the items
  pub items-front : (x : T) → cell_of r.pieces (taken r / BLOCK_SLOTS) (taken r) ≡ (WRITE, Some x)
      → (own_chain_queue r).items ≡ x ∷ items_from r.pieces (taken r / BLOCK_SLOTS) (taken r + 1) (accepted r - (taken r + 1))
  items-front x full =
      let more : accepted r - taken r ≡ suc (accepted r - (taken r + 1)) = omega arith in
      let item : (cell_of r.pieces (taken r / BLOCK_SLOTS) (taken r)).1 ≡ Some x = ap (λ (c : ℕ × Option T). c.1) full in
      rw (more, item) refl

  pub queue-popped : (x : T) → taken r % BLOCK_SLOTS + 1 ≢ BLOCK_SLOTS → cell_of r.pieces (taken r / BLOCK_SLOTS) (taken r) ≡ (WRITE, Some x)
      → own_chain_queue (popped r head) ≡ record (own_chain_queue r) { items = rest (own_chain_queue r).items }
  queue-popped x inner full =
      let count = l.count in
      let base : ℕ = taken r / BLOCK_SLOTS in
      let ps : List (Piece T) = set_item r.pieces base (taken r) (bit_or WRITE READ) None in
      let same : (taken r + 1) / BLOCK_SLOTS ≡ base = omega arith in
      let below : taken r < (base + length r.pieces) * BLOCK_SLOTS = omega arith in
      let left : items_from ps base (taken r + 1) (accepted r - (taken r + 1)) ≡ items_from r.pieces base (taken r + 1) (accepted r - (taken r + 1)) =
      items_from-same ps r.pieces base base (taken r + 1) (accepted r - (taken r + 1)) (λ n from to. item-other r.pieces base r.first (taken r) (bit_or WRITE READ) None l.linked (omega arith) below n (omega arith) (λ e. omega arith)) in
      let Left : List T → State T = λ xs. record (own_chain_queue r) { items = xs } in
      rw (m.counted, same) (ap Left (left ∙ sym (ap rest (items-front x full))))

  pub queue-passed : (x : T) → taken r % BLOCK_SLOTS + 1 ≡ BLOCK_SLOTS → cell_of r.pieces (taken r / BLOCK_SLOTS) (taken r) ≡ (WRITE, Some x)
      → own_chain_queue (passed r head) ≡ record (own_chain_queue r) { items = rest (own_chain_queue r).items }
  queue-passed x outer full =
      let count = l.count in
      let base : ℕ = taken r / BLOCK_SLOTS in
      let more : (taken r + 1) / BLOCK_SLOTS ≡ base + 1 = omega arith in
      let left : items_from (rest r.pieces) (base + 1) (taken r + 1) (accepted r - (taken r + 1)) ≡ items_from r.pieces base (taken r + 1) (accepted r - (taken r + 1)) =
      items_from-same (rest r.pieces) r.pieces (base + 1) base (taken r + 1) (accepted r - (taken r + 1)) (λ n from to. cell-rest r.pieces base n (omega arith) (omega arith)) in
      let Left : List T → State T = λ xs. record (own_chain_queue r) { items = xs } in
      rw (m.counted, more) (ap Left (left ∙ sym (ap rest (items-front x full))))
