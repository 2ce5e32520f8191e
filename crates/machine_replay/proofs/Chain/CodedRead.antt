-- The shared memory at each step of a pop on a chain that reads its item or walks over a passed block.
use Rattle.std.proofs.Common.{ℕ, ◌+◌, ◌/◌, ◌%◌, ◌<◌, ◌≡◌, ◌≢◌, ◌==◌, ◌∙◌, inl, inr, Bool, true, false, if◌then◌else◌, Option, Some, None, List, length, refl, sym, ap, subst, arith, get_or, set, bit_or}
use Rattle.std.proofs.{lemmas.List.length-set, Common.not, Common.Ok, Common.bit_and, Common.get_or-set_other}
use Rattle.machine_replay.specs.Vocabulary.{Reply, Word, Op, Touch, Answer, Next, BLOCK_SLOTS, READ, DESTROY}
use Rattle.queue_steps.specs.{State.State, ChainWords.offset_of, ChainNext.at, ChainNext.walks_on, declared.steps.chain.ChainLocal.ChainLocal as chain}
use Rattle.queue_laws.specs.Chain.ChainCells.{Wrote, Reading, Done, Walker, Waits, GivenUp, Chain, ChainOk, Read, Passed, HoldsOnly, item_at, LAST, Walk, Chained, WalkOk}
use Rattle.queue_laws.specs.Chain.{ChainFacts.head_of, ChainFacts.IsNamed, ChainFacts.Got, ChainAfter.left_by, ChainTransitions.walk_after, ChainTransitions.reads, ChainTransitions.walked, ChainAnswers.is_done, ChainAnswers.waits_at, ChainAnswers.IsState, ChainAnswers.StateAnswers}
use Rattle.queue_laws.specs.{Common.Puts.put, Chain.ChainAt.Only, Chain.ChainAt.IsLast, Chain.ChainAt.reading, Chain.ChainAt.beginning, Chain.ChainAt.walking, Chain.ChainAt.destroying}
use Rattle.machine_memory.specs.{Blocks.place_count, Blocks.BlockState, Blocks.without, Blocks.blank, Blocks.places_in, Blocks.state_of, Blocks.put_item, Blocks.put_state, SharedMemory.MemoryState, declared.blocks.BlockPlace.BlockPlace}
use Rattle.machine_steps.specs.Steps.{spare_in}
use Rattle.machine_replay.proofs.Chain.{Codes.BlockIs, Codes.block_set, Codes.block_stays, Names.HeldIs, Names.Codes, Names.Changed, Names.ends_in, CodesAt.codes_altered, Gives.block_at, Gives.has_place, Gives.codes_given_block, Coded.CodesShared, Coded.Coded, Coded.coded_with}
use Rattle.machine_replay.proofs.Chain.Blocks.{there, place_in, item_put, state_put, state_is, state_left, both_put, placed, changed_twice, changed_set, changed_none}
use Rattle.queue_laws.proofs.{Common.Puts.put_same, Chain.ChainEnds.Ends, Chain.ChainSlots.lies}
use Rattle.queue_laws.proofs.Chain.{ChainAnswers.done_is, ChainAnswers.head_offset, ChainWalk.behind_slot, ChainReads.not_given_up, ChainStates.state_answers, ChainStates.state_read, ChainStates.state_waits, ChainStates.state_passed}

-- the blocks after a walk that goes on or gives the block up
over_blocks : {A : Type 0} {bs cs : List (Option (BlockState A))} {f : ℕ} {x : BlockState A} → Changed bs cs f (Some x) → Changed bs (without (Some f) cs) f None
over_blocks {cs = cs} {f = f} {x = x} changed = changed_twice changed (changed_set cs f None (there cs f x changed.here))

-- The walk goes on after a slot, or is over and gives the block up: this is the block after the step, and what it leaves of the others
walk_on : {A : Type 0} {r : Chain A} {e : Ends} {blocks changed : List (Option (BlockState A))} (who slot b name : ℕ) (x : BlockState A)
    → slot < LAST → Changed blocks changed name (Some x) → BlockIs r b x.places x.next → r.uses name ≡ Chained b → r.walks b ≡ walk_after who slot
    → ((y : Option (BlockState A)) (after : List (Option (BlockState A))) → Changed blocks after name y → HeldIs r b y → Codes r e after)
    → Codes (left_by r (walks_on name slot)) e (without (spare_in (walks_on name slot)) changed)
walk_on {r = r} {e = e} {changed = changed} who slot b name x low now is used walk gives =
    behind_slot (λ w n. r.walks b ≡ w → Codes (left_by r n) e (without (spare_in n) changed)) who name slot low
    (λ more at. gives (Some x) changed now (inr ((λ z. let y : Walker who (slot + 1) ≡ GivenUp = sym at ∙ z in cc), is)))
    (λ over at. codes_given_block b name used (gives None (without (Some name) changed) (over_blocks now) (inl (at, refl))))
    walk

-- the block that a walk is at, and the state word of the slot there
record WalkBlock {A : Type 0} (c : Chain A) (s : MemoryState A) (b name slot : ℕ) : Type 0 where
  x : BlockState A
  is : get_or s.blocks name None ≡ Some x
  block : BlockIs c b x.places x.next
  low : slot < LAST
  state : IsState c b slot (state_of s.blocks name slot)
  placed_in : slot < place_count s.blocks name
  answers : StateAnswers c name slot (Answer.Found (state_of s.blocks name slot))
  used : c.uses name ≡ Chained b

walk_block : {A : Type 0} (c : Chain A) (who : ℕ) (s : MemoryState A) (b name slot : ℕ) → ChainOk c → CodesShared s c → c.walks b ≡ Walker who slot → IsNamed c b name → WalkBlock c s b name slot
walk_block c who s b name slot right codes is named =
    let x = block_at b name right named (λ e. let z : Walker who slot ≡ GivenUp = sym is ∙ e in cc) codes in
    let walk : WalkOk c.readers b (Walker who slot) = subst (λ w. WalkOk c.readers b w) is (right.walk b) in
    let low = walk.0 in
    let state : IsState c b slot (state_of s.blocks name slot) = subst (λ m. IsState c b slot m) (sym (state_is s.blocks name slot x.0 x.1)) (x.2.state slot (omega arith) (λ last. absurd (omega arith))) in
    record {
      x = x.0;
      is = x.1;
      block = x.2;
      low = low;
      state = state;
      placed_in = has_place s.blocks b name slot x.0 x.1 x.2 (omega arith);
      answers = state_answers c b name slot (state_of s.blocks name slot) right named state;
      used = ap c.uses named.1 ∙ right.name b named.0;
    }

module _ {A : Type 0} (c : Chain A) (who : ℕ) (ms : List (State A)) (ok : Bool) (s : MemoryState A) where
  -- W1: the state of a passed block's slot is read
  pub coded_walking : (x : A) (b name slot : ℕ) (holds : HoldsOnly c who (Only (Passed b))) (is : c.walks b ≡ Walker who slot) (named : IsNamed c b name)
      → ChainOk c → CodesShared s c → Coded c who ms ok s (walking x b name slot holds is named)
  coded_walking x b name slot holds is named right codes =
      coded_with (walking x b name slot holds is named) tt at_walk.placed_in at_walk.answers refl
      (λ fine gives. go (is_done (c.readers (item_at b slot))) (bit_and (state_of s.blocks name slot) READ == 0) refl at_walk.state.read)
    where
      at_walk : WalkBlock c s b name slot
      at_walk = walk_block c who s b name slot right codes is named

      r : Bool → Chain A
      r t = if t then walked c b (walk_after who slot) else c

      n : Bool → Next ℕ
      n u = if not u then walks_on name slot else at (chain.Destroying name slot) Touch.Nothing (Op.Or (Word.State name slot) DESTROY)

      go : (t u : Bool) → is_done (c.readers (item_at b slot)) ≡ t → u ≡ not t → Codes (left_by (r (is_done (c.readers (item_at b slot)))) (n u)) (ends_in s) (without (spare_in (n u)) s.blocks)
      go false u done e = rw e (subst (λ t. Codes (r t) (ends_in s) s.blocks) (sym done) codes)
      go true u done e =
          let a = Answer.Found (state_of s.blocks name slot) in
          rw e
          (walk_on {r = r (is_done (c.readers (item_at b slot)))} who slot b name at_walk.x at_walk.low (changed_none at_walk.is refl)
          (block_stays {ms = ms} (walking x b name slot holds is named) a right b at_walk.x.places at_walk.x.next at_walk.block refl refl)
          (subst (λ t. (r t).uses name ≡ Chained b) (sym done) at_walk.used)
          (subst (λ t. (r t).walks b ≡ walk_after who slot) (sym done) (put_same c.walks b (walk_after who slot)))
          (λ y after now held. codes_altered {ms = ms} (walking x b name slot holds is named) a right refl codes b name y refl named now held))

  -- W2: the reader of a passed block's slot has to go on with the walk
  pub coded_destroying : (x : A) (b name slot : ℕ) (holds : HoldsOnly c who (Only (Passed b))) (is : c.walks b ≡ Walker who slot) (named : IsNamed c b name)
      → ChainOk c → CodesShared s c → Coded c who ms ok s (destroying x b name slot holds is named)
  coded_destroying x b name slot holds is named right codes =
      coded_with (destroying x b name slot holds is named) tt at_walk.placed_in at_walk.answers refl
      (λ fine gives. go (is_done (c.readers (item_at b slot))) (bit_and (state_of s.blocks name slot) READ == 0) refl at_walk.state.read)
    where
      at_walk : WalkBlock c s b name slot
      at_walk = walk_block c who s b name slot right codes is named

      a : Answer ℕ
      a = Answer.Found (state_of s.blocks name slot)

      marked_word : ℕ
      marked_word = bit_or (state_of s.blocks name slot) DESTROY

      p : BlockPlace A
      p = record (place_in at_walk.x slot) { state = marked_word }

      r : Chain A
      r = walked c b (if is_done (c.readers (item_at b slot)) then walk_after who slot else Waits slot)

      walk : (t : Bool) → is_done (c.readers (item_at b slot)) ≡ t → put c.walks b (if is_done (c.readers (item_at b slot)) then walk_after who slot else Waits slot) b ≡ (if t then walk_after who slot else Waits slot)
      walk t e = put_same c.walks b (if is_done (c.readers (item_at b slot)) then walk_after who slot else Waits slot) ∙ ap (λ u. if u then walk_after who slot else Waits slot) e

      changed : Changed s.blocks (put_state s.blocks name slot marked_word) name (Some (placed at_walk.x slot p))
      changed = state_put s.blocks name slot marked_word at_walk.x at_walk.is

      block_is : IsState r b slot marked_word → BlockIs r b (set at_walk.x.places slot p) at_walk.x.next
      block_is state = block_set {ms = ms} (destroying x b name slot holds is named) a right b at_walk.x.places at_walk.x.next at_walk.block refl slot p (let low = at_walk.low in omega arith) refl (λ unread. state)
          (at_walk.block.slot slot (let low = at_walk.low in omega arith))

      leaves : (y : Option (BlockState A)) (after : List (Option (BlockState A))) → Changed s.blocks after name y → HeldIs r b y → Codes r (ends_in s) after
      leaves y after now held = codes_altered {ms = ms} (destroying x b name slot holds is named) a right refl codes b name y refl named now held

      n : Bool → Next ℕ
      n u = if not u then walks_on name slot else Next.Reply (Reply.Pop (Ok tt)) None

      go : (t u : Bool) → is_done (c.readers (item_at b slot)) ≡ t → u ≡ not t → Codes (left_by r (n u)) (ends_in s) (without (spare_in (n u)) (put_state s.blocks name slot marked_word))
      go false u done e =
          rw e
          (leaves (Some (placed at_walk.x slot p)) (put_state s.blocks name slot marked_word) changed (inr (
            (λ z. let y : Waits slot ≡ GivenUp = sym (walk false done) ∙ z in cc),
            block_is (state_waits c r b slot (state_of s.blocks name slot) refl refl (walk false done) at_walk.state),
          )))
      go true u done e =
          let read = done_is (c.readers (item_at b slot)) done in
          rw e
          (walk_on {r = r} who slot b name (placed at_walk.x slot p) at_walk.low changed (block_is (state_passed c r b slot (state_of s.blocks name slot) refl read read at_walk.state))
          at_walk.used (walk true done) leaves)

-- what lies in a slot that is written and being read
lies_there : {A : Type 0} (c : Chain A) (n m who : ℕ) (x : A) → m ≡ n → c.writers n ≡ Wrote x → c.readers n ≡ Reading who → lies (c.writers m) (c.readers m) ≡ Some x
lies_there c n m who x same wrote reading_it = rw (same, wrote, reading_it) refl

module _ {A : Type 0} (c : Chain A) (who : ℕ) (ms : List (State A)) (ok : Bool) (s : MemoryState A)
    (x : A) (n name : ℕ) (more : Bool) (holds : HoldsOnly c who (Only (Read n))) (got : Got c who n x name) (wrote : c.writers n ≡ Wrote x) (right : ChainOk c) (codes : CodesShared s c) where
  -- the block and the slot of the item that is read
  abbrev b : ℕ
  b = n / BLOCK_SLOTS

  abbrev i : ℕ
  i = offset_of (head_of n more)

  slot : i ≡ n % BLOCK_SLOTS
  slot = head_offset n more

  wide : i < BLOCK_SLOTS
  wide = let e = slot in omega arith

  there_is : item_at b i ≡ n
  there_is = let e = slot in omega arith

  unread : c.readers n ≢ Done
  unread e = let z : Reading who ≡ Done = sym got.mine ∙ e in cc

  on : c.walks b ≢ GivenUp
  on = not_given_up c n right unread

  block : (y : BlockState A) × (get_or s.blocks name None ≡ Some y) × BlockIs c b y.places y.next
  block = block_at b name right got.named on codes

  room : i < length block.0.places
  room = subst (λ m. i < m) (sym block.2.wide) wide

  used : c.uses name ≡ Chained b
  used = ap c.uses got.named.1 ∙ right.name b got.named.0

  -- its slot is emptied
  abbrev emptied : List (Option (BlockState A))
  emptied = put_item s.blocks name i None

  empties : Changed s.blocks emptied name (Some (placed block.0 i (record (place_in block.0 i) { item = None })))
  empties = item_put s.blocks name i None block.0 block.1

  takes : (get_or (places_in (get_or s.blocks name None)) i blank).item ≡ Some x
  takes = ap (λ y. (get_or (places_in y) i blank).item) block.1 ∙ (block.2.slot i wide ∙ lies_there c n (item_at b i) who x there_is wrote got.mine)

  operates : (j : ℕ) → j < BLOCK_SLOTS → j < place_count emptied name
  operates j lt = subst (λ y. j < length (places_in y)) (sym empties.here) (subst (λ m. j < m) (sym (length-set block.0.places i (record (place_in block.0 i) { item = None }))) (let w = block.2.wide in omega arith))

  -- and it is read
  read : put c.readers n Done (item_at b i) ≡ Done
  read = ap (put c.readers n Done) there_is ∙ put_same c.readers n Done

  nothing : None ≡ lies (c.writers (item_at b i)) (put c.readers n Done (item_at b i))
  nothing = sym (ap (λ q. lies (c.writers (item_at b i)) q) read)

  -- V10: the item is read, in the middle of a block
  pub coded_reading : (inner : IsLast n → ⊥) → Coded c who ms ok s (reading x n name more holds got wrote inner)
  coded_reading inner =
      coded_with (reading x n name more holds got wrote inner) (has_place s.blocks b name i block.0 block.1 block.2 wide) (operates i wide) (state_answers c b name i st right got.named state) takes
      (λ fine gives. go (waits_at (c.walks b) i) (bit_and st DESTROY == 0) refl (state.destroyed (λ e. unread (ap c.readers (sym there_is) ∙ e))))
    where
      st : ℕ
      st = state_of emptied name i

      word_is : state_of emptied name i ≡ (place_in block.0 i).state
      word_is = state_left s.blocks name i None block.0 block.1 room

      state : IsState c b i st
      state = subst (λ m. IsState c b i m) (sym word_is) (block.2.state i wide (λ last e. unread (ap c.readers (sym there_is) ∙ e)))

      p : BlockPlace A
      p = record { state = bit_or st READ; item = None }

      after : List (Option (BlockState A))
      after = put_state emptied name i (bit_or st READ)

      changed : Changed s.blocks after name (Some (placed block.0 i p))
      changed = both_put s.blocks name i (bit_or st READ) None block.0 block.1 room

      w : Bool → Walk
      w t = if t then walk_after who i else c.walks b

      r : Chain A
      r = reads c n (w (waits_at (c.walks b) i))

      walk : (t : Bool) → waits_at (c.walks b) i ≡ t → put c.walks b (w (waits_at (c.walks b) i)) b ≡ w t
      walk t e = put_same c.walks b (w (waits_at (c.walks b) i)) ∙ ap w e

      block_is : BlockIs r b (set block.0.places i p) block.0.next
      block_is = block_set {ms = ms} (reading x n name more holds got wrote inner) (Answer.Found st) right b block.0.places block.0.next block.2 refl i p wide (ap (λ m. Some m) (sym there_is)) (λ unread_now. state_read c r b i st refl read state) nothing

      leaves : (y : Option (BlockState A)) (end : List (Option (BlockState A))) → Changed s.blocks end name y → HeldIs r b y → Codes r (ends_in s) end
      leaves y end now held = codes_altered {ms = ms} (reading x n name more holds got wrote inner) (Answer.Found st) right refl codes b name y refl got.named now held

      nx : Bool → Next ℕ
      nx u = if not u then walks_on name i else Next.Reply (Reply.Pop (Ok tt)) None

      go : (t u : Bool) → waits_at (c.walks b) i ≡ t → u ≡ not t → Codes (left_by r (nx u)) (ends_in s) (without (spare_in (nx u)) after)
      go false u waits e = rw e (leaves (Some (placed block.0 i p)) after changed (inr ((λ z. on (sym (walk false waits) ∙ z)), block_is)))
      go true u waits e = rw e (walk_on {r = r} who i b name (placed block.0 i p) (let at = slot in omega (arith, inner)) changed block_is used (walk true waits) leaves)

  -- V10: the item of the last slot is read, and the walk begins at the first: W1
  pub coded_beginning : (last_is : IsLast n) → Coded c who ms ok s (beginning x n name more holds got wrote last_is)
  coded_beginning last_is =
      coded_with (beginning x n name more holds got wrote last_is) (has_place s.blocks b name i block.0 block.1 block.2 wide) (operates 0 (omega arith)) (state_answers c b name 0 st right got.named state) takes
      (λ fine gives. go (is_done (c.readers (item_at b 0))) (bit_and st READ == 0) refl state.read)
    where
      at_last : i ≡ LAST
      at_last = let e = slot in omega (arith, last_is)

      p : BlockPlace A
      p = record (place_in block.0 i) { item = None }

      st : ℕ
      st = state_of emptied name 0

      word_is : state_of emptied name 0 ≡ (place_in block.0 0).state
      word_is = state_is emptied name 0 (placed block.0 i p) empties.here ∙ ap (λ q. q.state) (get_or-set_other block.0.places i 0 p blank (λ e. let z = at_last in absurd (omega arith)))

      state : IsState c b 0 st
      state = subst (λ m. IsState c b 0 m) (sym word_is) (block.2.state 0 (omega arith) (λ z. absurd (omega arith)))

      w : Bool → Walk
      w t = if t then walk_after who 0 else Walker who 0

      r : Chain A
      r = reads c n (w (is_done (c.readers (item_at b 0))))

      walk : (t : Bool) → is_done (c.readers (item_at b 0)) ≡ t → put c.walks b (w (is_done (c.readers (item_at b 0)))) b ≡ w t
      walk t e = put_same c.walks b (w (is_done (c.readers (item_at b 0)))) ∙ ap w e

      -- the last slot's word does not tell that its item is read
      block_is : BlockIs r b (set block.0.places i p) block.0.next
      block_is = block_set {ms = ms} (beginning x n name more holds got wrote last_is) (Answer.Found st) right b block.0.places block.0.next block.2 refl i p wide (ap (λ m. Some m) (sym there_is)) (λ unread_now. absurd (unread_now at_last read)) nothing

      leaves : (y : Option (BlockState A)) (end : List (Option (BlockState A))) → Changed s.blocks end name y → HeldIs r b y → Codes r (ends_in s) end
      leaves y end now held = codes_altered {ms = ms} (beginning x n name more holds got wrote last_is) (Answer.Found st) right refl codes b name y refl got.named now held

      nx : Bool → Next ℕ
      nx u = if not u then walks_on name 0 else at (chain.Destroying name 0) Touch.Nothing (Op.Or (Word.State name 0) DESTROY)

      go : (t u : Bool) → is_done (c.readers (item_at b 0)) ≡ t → u ≡ not t → Codes (left_by r (nx u)) (ends_in s) (without (spare_in (nx u)) emptied)
      go false u done e = rw e (leaves (Some (placed block.0 i p)) emptied empties (inr ((λ z. let y : Walker who 0 ≡ GivenUp = sym (walk false done) ∙ z in cc), block_is)))
      go true u done e = rw e (walk_on {r = r} who 0 b name (placed block.0 i p) (omega arith) empties block_is used (walk true done) leaves)
