-- The read of an item: its slot goes back vacant. Where the walk waits for the slot its reader walks on, and the reader of the last slot begins the walk.
use Rattle.shared_chain.proofs.{Frames.States.GaveBack, Frames.States.gave_back, Steps.Walking.walk_goes, Frames.Blocks.SlotIs}
use Rattle.queue_laws.specs.{Chain.ChainAt.has_taken, Common.Puts.put, Common.Vocabulary.Answer, Chain.ChainAt.At, Common.Stand.Stand, Chain.ChainAfter.after_of}
use Rattle.std.proofs.Common.{ℕ, ◌+◌, ◌/◌, ◌<◌, ◌≡◌, ◌≢◌, ◌==◌, ◌∙◌, not, Bool, true, false, if◌then◌else◌, Option, Ok, Some, None, List, refl, sym, ap, subst, arith, bit_and, bit_or}
use mathlib.Core.Option.{some}
use lib.ListN.{get_elem?}
use denote.RawPtr.{Ptr}
use Rattle.queue_laws.specs.Chain.{ChainTransitions.reads, ChainTransitions.walk_after, ChainFacts.head_of, ChainFacts.Got, ChainAt.Only, ChainAt.IsLast, ChainAt.reading, ChainAt.beginning, ChainAnswers.IsState, ChainAnswers.is_done, ChainAnswers.waits_at, ChainPasses.spare_in}
use Rattle.queue_laws.proofs.{Common.Puts.put_same, Common.Puts.put_other, Chain.ChainRead.waits_is, Chain.ChainAnswers.head_offset, Chain.ChainHolds.after_read, Chain.ChainHolds.after_read_on, Chain.ChainStates.state_read}
use Rattle.queue_laws.specs.Common.Vocabulary.{Reply, Word, Op, Touch, Local, Next, BLOCK_SLOTS, WRITE, READ, DESTROY}
use Rattle.queue_steps.specs.{State.State, ChainWords.offset_of, ChainNext.at, ChainNext.ends, ChainNext.walks_on, declared.steps.chain.ChainLocal.ChainLocal as chain}
use Rattle.queue_laws.specs.Chain.ChainCells.{Wrote, Reading, Done, Walk, Before, Walker, Waits, GivenUp, ChainOk, WalkOk, Read, Passed, HoldsOnly, reader_of, item_at, LAST}
use Rattle.mem_blocks.specs.Web.{Block, Sitter, gives, block, word_of, with_word, with_home, vacant, sitter_acted}
use Rattle.shared_parties.specs.{declared.known.CallState.CallState, Calling.touched_list}
use Rattle.shared_chain.specs.{Spots.spot, ChainCalls.OutChain, Rule.home_of, Rule.plain_state, Rule.Codes, Steps.BlockStep, Steps.HoldsBy, Steps.carried_by}
use Rattle.shared_chain.proofs.Frames.Homes.{OneSlot, one_item, SlotTurns, turns_not, turns_word, codes_turned, word_set}
use Rattle.shared_chain.proofs.Frames.{States.SlotAt, States.slot_at, States.load_step, States.or_step, States.walks_none, Leaves.Leaves, Leaves.acts_first, Leaves.idles, Leaves.nothing_out, Leaves.others_out}

-- The slot i of the block of the item n goes back vacant. The step's operation made cs of the blocks bs, and changed at most the state of this slot
module _ {A : Type 0} (te he : Ptr) (g : OutChain A) (who : ℕ) (bs cs : List (Block A)) (m : Sitter A (CallState A)) (x : A) (n i name : ℕ) {ms : List (State A)} {k : Stand A} (here : At g.chain who ms k) (a : Answer ℕ)
    (holds : HoldsOnly g.chain who (Only (Read n))) (mine : g.chain.readers n ≡ Reading who)
    (wrote : g.chain.writers n ≡ Wrote x) (ok : ChainOk g.chain) (codes : Codes te he g bs) (is : SlotAt te he g bs n i name) (has : (m.hand ≡ Some (spot name, i, None)) × (m.spare ≡ None)) (turns : SlotTurns (n / BLOCK_SLOTS + 2) i bs cs)
    (one : (w : Walk) → OneSlot g here a (record { chain = reads g.chain n w; out = put g.out n false }) (n / BLOCK_SLOTS) i) where
  wrote_here : g.chain.writers (item_at (n / BLOCK_SLOTS) i) ≡ Wrote x
  wrote_here = ap g.chain.writers is.at ∙ wrote

  read_now : put g.chain.readers n Done (item_at (n / BLOCK_SLOTS) i) ≡ Done
  read_now = ap (put g.chain.readers n Done) is.at ∙ put_same g.chain.readers n Done

  -- the chain then, with this walk over the block
  abbrev after : Walk → OutChain A
  after w = record { chain = reads g.chain n w; out = put g.out n false }

  -- the slot as it was given back
  abbrev back : List (Block A)
  back = with_home cs (n / BLOCK_SLOTS + 2) i vacant

  gave : GaveBack bs cs m (n / BLOCK_SLOTS + 2) i None
  gave = gave_back is turns has.0

  -- the slot is read then
  slot_then : (w : Walk) → (i ≢ LAST → IsState (after w).chain (n / BLOCK_SLOTS) i (word_of cs (n / BLOCK_SLOTS + 2) i)) → (w ≡ Before → word_of cs (n / BLOCK_SLOTS + 2) i ≡ WRITE + READ)
      → SlotIs (after w) (n / BLOCK_SLOTS) i (word_of back (n / BLOCK_SLOTS + 2) i) (get_elem? (block back (n / BLOCK_SLOTS + 2)).homes i)
  slot_then w state plain = record {
    state = λ last. subst (λ z. IsState (after w).chain (n / BLOCK_SLOTS) i z) (sym gave.word) (state (λ e. last e read_now));
    plain = λ e. gave.word ∙ plain (sym (put_same g.chain.walks (n / BLOCK_SLOTS) w) ∙ e) ∙ (λ j. plain_state (sym wrote_here j) (sym read_now j));
    slot = gave.home ∙ (λ j. some (home_of (sym wrote_here j) (sym read_now j) (put g.out n false (item_at (n / BLOCK_SLOTS) i))));
  }

  -- the blocks where the walk is this, which is not at the block's end
  codes_read : (w : Walk) → after_of here a ≡ reads g.chain n w → w ≢ GivenUp → (w ≡ Before → g.chain.walks (n / BLOCK_SLOTS) ≡ Before)
      → SlotIs (after w) (n / BLOCK_SLOTS) i (word_of back (n / BLOCK_SLOTS + 2) i) (get_elem? (block back (n / BLOCK_SLOTS + 2)).homes i)
      → Codes te he (after w) back
  codes_read w leads stays begun slot =
      let walk : put g.chain.walks (n / BLOCK_SLOTS) w (n / BLOCK_SLOTS) ≡ w = put_same g.chain.walks (n / BLOCK_SLOTS) w in
      codes_turned te he g here a (after w).chain leads (put g.out n false) ok bs back (n / BLOCK_SLOTS) i is.low (one w) codes is.named.0 gave.turns is.on (λ e. stays (sym walk ∙ e)) (λ e. begun (sym walk ∙ e)) slot

  -- the last slot: the walk begins at it, or behind it
  begins : i ≡ LAST → (slot : ℕ) (l : Local ℕ) (t : Touch) (o : Op ℕ) → after_of here a ≡ reads g.chain n (Walker who slot) → spare_in l ≡ None → Leaves te he g who cs m (reads g.chain n (Walker who slot)) (Next.Step l t o)
  begins last slot l t o leads spare =
      let none = after_read_on g.chain who n (Walker who slot) holds in
      acts_first (gives (n / BLOCK_SLOTS + 2) i None) gave.may
      (idles (put g.out n false) (codes_read (Walker who slot) leads (λ e. cc) (λ e. absurd (cc)) (slot_then (Walker who slot) (λ ne. absurd (ne last)) (λ e. absurd (cc))))
      (others_out g who n false mine) (λ j e. absurd (let z : Read j ≡ Passed (n / BLOCK_SLOTS) = none (Read j) (ap reader_of e) in cc)) (walks_none te he (after (Walker who slot)) who (n / BLOCK_SLOTS) none)
      (refl, has.1 ∙ ap carried_by (sym spare)))

  -- the call goes on by whether the walk waits for the slot, and by whether the state says that it does not
  abbrev goes : Bool → Bool → Type 0
  goes t u = Leaves te he g who cs m (reads g.chain n (if t then walk_after who i else g.chain.walks (n / BLOCK_SLOTS))) (if not u then walks_on name i else ends (Reply.Pop (Ok tt)))

  -- any other slot
  read_left : i < LAST → word_of cs (n / BLOCK_SLOTS + 2) i ≡ bit_or (word_of bs (n / BLOCK_SLOTS + 2) i) READ
      → after_of here a ≡ reads g.chain n (if waits_at (g.chain.walks (n / BLOCK_SLOTS)) i then walk_after who i else g.chain.walks (n / BLOCK_SLOTS))
      → goes (waits_at (g.chain.walks (n / BLOCK_SLOTS)) i) (bit_and (word_of bs (n / BLOCK_SLOTS + 2) i) DESTROY == 0)
  read_left below made leads = go (waits_at (g.chain.walks (n / BLOCK_SLOTS)) i) refl
    where
      state : (w : Walk) → IsState (after w).chain (n / BLOCK_SLOTS) i (word_of cs (n / BLOCK_SLOTS + 2) i)
      state w = subst (λ z. IsState (after w).chain (n / BLOCK_SLOTS) i z) (sym made) (state_read g.chain (after w).chain (n / BLOCK_SLOTS) i (word_of bs (n / BLOCK_SLOTS + 2) i) refl read_now is.state)

      leads_by : (t : Bool) → waits_at (g.chain.walks (n / BLOCK_SLOTS)) i ≡ t → after_of here a ≡ reads g.chain n (if t then walk_after who i else g.chain.walks (n / BLOCK_SLOTS))
      leads_by t e = leads ∙ ap (λ u. reads g.chain n (if u then walk_after who i else g.chain.walks (n / BLOCK_SLOTS))) e

      go : (t : Bool) → waits_at (g.chain.walks (n / BLOCK_SLOTS)) i ≡ t → goes (waits_at (g.chain.walks (n / BLOCK_SLOTS)) i) (bit_and (word_of bs (n / BLOCK_SLOTS + 2) i) DESTROY == 0)
      -- the walk is elsewhere, or not begun
      go false e =
          let b = n / BLOCK_SLOTS in
          let w = g.chain.walks b in
          let none = after_read g.chain who n w (λ z. let y : Passed b ≡ Read n = holds (Passed b) z in cc) holds in
          rw (e, is.state.destroyed is.unread ∙ ap not e) (acts_first (gives (b + 2) i None) gave.may
          (idles (put g.out n false) (codes_read w (leads_by false e) is.on (λ z. z)
          (slot_then w (λ ne. state w) (λ z. made ∙ ap (λ j. bit_or j READ) (is.block_is.plain z i is.low ∙ (λ j. plain_state (wrote_here j) ((ap g.chain.readers is.at ∙ mine) j))))))
          (others_out g who n false mine) tt (nothing_out (after w) who none) (refl, has.1)))
      -- it waits for the slot
      go true e =
          let b = n / BLOCK_SLOTS in
          let walked : WalkOk g.chain.readers b (Waits i) = subst (λ w. WalkOk g.chain.readers b w) (waits_is (g.chain.walks b) i e) (ok.walk b) in
          rw (e, is.state.destroyed is.unread ∙ ap not e) (acts_first (gives (b + 2) i None) gave.may
          (walk_goes te he g who bs back (sitter_acted cs m (gives (b + 2) i None)) here a b name i (put g.chain.readers n Done) (put g.out n false) (leads_by true e) one ok codes is.named below walked.1 is.on (refl, has.1)
          (others_out g who n false mine) (λ w. after_read_on g.chain who n w holds) gave.turns (λ w ne. slot_then w (λ last. state w) (λ z. absurd (ne z))) gave.home))

module _ {A : Type 0} (te he : Ptr) (g : OutChain A) (who : ℕ) (bs : List (Block A)) (m : Sitter A (CallState A)) (ms : List (State A)) where
  pub step_reading : (x : A) (n name : ℕ) (more : Bool) (holds : HoldsOnly g.chain who (Only (Read n))) (got : Got g.chain who n x name) (wrote : g.chain.writers n ≡ Wrote x) (inner : IsLast n → ⊥)
      → ChainOk g.chain → Codes te he g bs → (xs : List (ℕ × Option A))
      → HoldsBy (Local.Chain (chain.Reading name (offset_of (head_of n more)))) (Op.Or (Word.State name (offset_of (head_of n more))) READ) (touched_list (Touch.Take (offset_of (head_of n more))) None xs) m
      → BlockStep te he g who bs m {ms = ms} (reading x n name more holds got wrote inner)
  step_reading x n name more holds got wrote inner ok codes xs has =
      let b = n / BLOCK_SLOTS in
      let i = offset_of (head_of n more) in
      let here : At g.chain who ms (has_taken (chain.Reading name i) (Touch.Take i) (Op.Or (Word.State name i) READ) None x) = reading x n name more holds got wrote inner in
      let offset = head_offset n more in
      let is = slot_at te he ok codes got.named offset (λ e. let z : Reading who ≡ Done = sym got.mine ∙ e in cc) in
      let made = bit_or (word_of bs (b + 2) i) READ in
      or_step te he g who bs m b name i READ here ok codes got.named is.on is.state
      (read_left te he g who bs (with_word bs (b + 2) i made) m x n i name here (Answer.Found (word_of bs (b + 2) i)) holds got.mine wrote ok codes is has (turns_word (b + 2) i made bs is.long)
      (λ w. one_item is.at refl refl (refl, refl) (refl, refl, refl) (λ j ne. put_other g.out n j false ne)) (omega (arith, offset, inner)) (word_set bs (b + 2) i made is.long (omega (arith, is.block_is.words, is.low))) refl)

  pub step_beginning : (x : A) (n name : ℕ) (more : Bool) (holds : HoldsOnly g.chain who (Only (Read n))) (got : Got g.chain who n x name) (wrote : g.chain.writers n ≡ Wrote x) (last : IsLast n)
      → ChainOk g.chain → Codes te he g bs → (xs : List (ℕ × Option A)) → HoldsBy (Local.Chain (chain.Walking name 0)) (Op.Load (Word.State name 0)) (touched_list (Touch.Take (offset_of (head_of n more))) None xs) m
      → BlockStep te he g who bs m {ms = ms} (beginning x n name more holds got wrote last)
  step_beginning x n name more holds got wrote last ok codes xs has =
      load_step te he g who bs m b name 0 here ok codes got.named is.on state (left (is_done (g.chain.readers (item_at b 0))) refl)
    where
      b : ℕ
      b = n / BLOCK_SLOTS

      i : ℕ
      i = offset_of (head_of n more)

      here : At g.chain who ms (has_taken (chain.Walking name 0) (Touch.Take (offset_of (head_of n more))) (Op.Load (Word.State name 0)) None x)
      here = beginning x n name more holds got wrote last

      is : SlotAt te he g bs n i name
      is = slot_at te he ok codes got.named (head_offset n more) (λ e. let z : Reading who ≡ Done = sym got.mine ∙ e in cc)

      state : IsState g.chain b 0 (word_of bs (b + 2) 0)
      state = is.block_is.state 0 (omega arith) (λ e. cc)

      starts : Bool → Bool → Type 0
      starts t u = Leaves te he g who bs m (reads g.chain n (if t then walk_after who 0 else Walker who 0)) (if not u then walks_on name 0 else at (chain.Destroying name 0) Touch.Nothing (Op.Or (Word.State name 0) DESTROY))

      begins_at : (slot : ℕ) (l : Local ℕ) (t : Touch) (o : Op ℕ) → after_of here (Answer.Found (word_of bs (b + 2) 0)) ≡ reads g.chain n (Walker who slot) → spare_in l ≡ None
          → Leaves te he g who bs m (reads g.chain n (Walker who slot)) (Next.Step l t o)
      begins_at = begins te he g who bs bs m x n i name here (Answer.Found (word_of bs (b + 2) 0)) holds got.mine wrote ok codes is has (turns_not (b + 2) i bs)
          (λ w. one_item is.at refl refl (refl, refl) (refl, refl, refl) (λ j ne. put_other g.out n j false ne)) (omega (arith, head_offset n more, last))

      left : (t : Bool) → is_done (g.chain.readers (item_at b 0)) ≡ t → starts (is_done (g.chain.readers (item_at b 0))) (bit_and (word_of bs (b + 2) 0) READ == 0)
      left true e = rw (e, state.read ∙ ap not e) (begins_at 1 (Local.Chain (chain.Walking name 1)) Touch.Nothing (Op.Load (Word.State name 1)) (ap (λ t. reads g.chain n (if t then walk_after who 0 else Walker who 0)) e) refl)
      left false e = rw (e, state.read ∙ ap not e) (begins_at 0 (Local.Chain (chain.Destroying name 0)) Touch.Nothing (Op.Or (Word.State name 0) DESTROY) (ap (λ t. reads g.chain n (if t then walk_after who 0 else Walker who 0)) e) refl)
