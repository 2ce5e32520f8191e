-- What a step on one slot of a block leaves of the blocks: every other slot, link and block is as it was.
use Rattle.std.proofs.Common.{ℕ, suc, ◌+◌, ◌/◌, ◌<◌, ◌≡◌, ◌≢◌, ◌∙◌, inl, inr, Bool, Option, Some, None, List, [], ◌∷◌, length, refl, sym, ap, subst, arith, slice_index_or, get_or-set_same, get_or-set_other, length-set}
use Rattle.std.proofs.lemmas.Bool.Decides.{eqb_tells}
use mathlib.Core.Option.{some, some-injective}
use lib.ListN.{get_elem?}
use denote.RawPtr.{Ptr}
use Rattle.atomic_table.proofs.Lists.{set_here, set_else}
use Rattle.queue_laws.specs.{Common.Vocabulary.Answer, Common.Vocabulary.BLOCK_SLOTS, Common.Stand.Stand, Chain.ChainAt.At, Chain.ChainAfter.after_of, Chain.ChainAnswers.linked_of}
use Rattle.queue_laws.proofs.Chain.{ChainStates.other_slot, ChainStates.other_block, ChainEnds.ends_of, ChainEnds.ends_made, ChainSlots.SameSlot, ChainSlots.slot_set, ChainSlots.item_moved, ChainSlots.block_altered, ChainSlots.use_changed, ChainSlots.step_slot}
use Rattle.queue_laws.specs.Chain.ChainCells.{Writer, Writing, Reader, Done, Before, GivenUp, Chain, ChainOk, ItemOk, IsWalked, item_at, LAST}
use Rattle.queue_steps.specs.State.{State}
use Rattle.mem_blocks.specs.Web.{Block, Home, block, worded, homed, gone, with_word, with_home, without, word_of, vacant, AllVacant}
use Rattle.shared_chain.specs.{Spots.spot, ChainCalls.OutChain, Rule.home_of, Rule.lead_of, Rule.BlockIs, Rule.IsThere, Rule.Codes}
use Rattle.shared_chain.proofs.Frames.Blocks.{SlotIs, slot_is, slots_are, slot_same, alive_is, word_here, word_else, home_here, home_else, gone_here, gone_else}
use Rattle.shared_chain.proofs.Frames.{Ends.EndsAre, Ends.ends_as, Stepping.home_stays, Stepping.block_stays, Stepping.codes_made}

-- what is nothing, or one number, is no other one
pub none_other : {o : Option ℕ} {n : ℕ} → o ≡ None → o ≢ Some n
none_other none e = let z : None ≡ Some _ = sym none ∙ e in cc

pub some_other : {o : Option ℕ} {m n : ℕ} → o ≡ Some m → n ≢ m → o ≢ Some n
some_other {m = m} {n = n} is ne e = let z : Some m ≡ Some n = sym is ∙ e in ne (let y : n ≡ m = cc in y)

-- with the last slot passed, each other item of the block is read
others_read : (readers : ℕ → Reader) (b slot : ℕ) → IsWalked readers b slot → slot + 1 ≡ LAST → (j : ℕ) → j < BLOCK_SLOTS → j ≢ slot → readers (item_at b j) ≡ Done
others_read readers b slot walked last j low ne = elim (eqb_tells j LAST) [
  | inl t ↦ subst (λ k. readers (item_at b k) ≡ Done) (sym t.1) walked.0
  | inr t ↦ walked.1 j (let no = t.1 in omega arith)
]

module _ {A : Type 0} where
  -- all but the slot i is the same
  pub record IsTurned (i : ℕ) (x y : Block A) : Type 0 where
    pub at : y.at ≡ x.at
    pub alive : y.alive ≡ x.alive
    pub next : y.next ≡ x.next
    pub words : length y.words ≡ length x.words
    pub homes : length y.homes ≡ length x.homes
    pub word : (j : ℕ) → j ≢ i → slice_index_or y.words j 0 ≡ slice_index_or x.words j 0
    pub home : (j : ℕ) → j ≢ i → get_elem? y.homes j ≡ get_elem? x.homes j

  -- all but the slot i of the block k is the same
  pub record SlotTurns (k i : ℕ) (bs cs : List (Block A)) : Type 0 where
    pub size : length cs ≡ length bs
    pub other : (j : ℕ) → j ≢ k → block cs j ≡ block bs j
    pub here : IsTurned i (block bs k) (block cs k)

  pub turns_not : (k i : ℕ) (bs : List (Block A)) → SlotTurns k i bs bs
  turns_not k i bs = record {
    size = refl;
    other = λ j ne. refl;
    here = record { at = refl; alive = refl; next = refl; words = refl; homes = refl; word = λ j ne. refl; home = λ j ne. refl };
  }

  pub turns_both : (k i : ℕ) (bs cs ds : List (Block A)) → SlotTurns k i bs cs → SlotTurns k i cs ds → SlotTurns k i bs ds
  turns_both k i bs cs ds s t = record {
    size = t.size ∙ s.size;
    other = λ j ne. t.other j ne ∙ s.other j ne;
    here = record {
      at = t.here.at ∙ s.here.at;
      alive = t.here.alive ∙ s.here.alive;
      next = t.here.next ∙ s.here.next;
      words = t.here.words ∙ s.here.words;
      homes = t.here.homes ∙ s.here.homes;
      word = λ j ne. t.here.word j ne ∙ s.here.word j ne;
      home = λ j ne. t.here.home j ne ∙ s.here.home j ne;
    };
  }

  pub turns_word : (k i n : ℕ) (bs : List (Block A)) → k < length bs → SlotTurns k i bs (with_word bs k i n)
  turns_word k i n bs lt = record {
    size = length-set bs k (worded (block bs k) i n);
    other = λ j ne. word_else bs k i n j ne;
    here = subst (λ (y : Block A). IsTurned i (block bs k) y) (sym (word_here bs k i n lt)) (record {
      at = refl;
      alive = refl;
      next = refl;
      words = length-set (block bs k).words i n;
      homes = refl;
      word = λ j ne. get_or-set_other (block bs k).words i j n 0 ne;
      home = λ j ne. refl;
    });
  }

  pub turns_home : (k i : ℕ) (h : Home A) (bs : List (Block A)) → k < length bs → SlotTurns k i bs (with_home bs k i h)
  turns_home k i h bs lt = record {
    size = length-set bs k (homed (block bs k) i h);
    other = λ j ne. home_else bs k i h j ne;
    here = subst (λ (y : Block A). IsTurned i (block bs k) y) (sym (home_here bs k i h lt)) (record {
      at = refl;
      alive = refl;
      next = refl;
      words = refl;
      homes = length-set (block bs k).homes i h;
      word = λ j ne. refl;
      home = λ j ne. set_else (block bs k).homes i j h ne;
    });
  }

  -- a step that was answered so, and leads to the chain r, is on the slot i of the block b alone
  pub record OneSlot (g : OutChain A) {who : ℕ} {ms : List (State A)} {k : Stand A} (here : At g.chain who ms k) (a : Answer ℕ) (r : OutChain A) (b i : ℕ) : Type 0 where
    pub unused : use_changed here a ≡ None
    pub ends : ends_made k.op (ends_of g.chain) ≡ ends_of g.chain
    pub shape : (r.chain.names ≡ g.chain.names) × (r.chain.links ≡ g.chain.links)
    pub altered : (j : ℕ) → j ≢ b → block_altered here ≢ Some j
    pub moved : (n : ℕ) → n ≢ item_at b i → item_moved here ≢ Some n
    pub set : (n : ℕ) → n ≢ item_at b i → slot_set here ≢ Some n
    pub kept : (n : ℕ) → n ≢ item_at b i → r.out n ≡ g.out n

  -- one that sets the slot of the item n is
  pub one_item : {g : OutChain A} {who : ℕ} {ms : List (State A)} {k : Stand A} {here : At g.chain who ms k} {a : Answer ℕ} {r : OutChain A} {n i : ℕ}
      → item_at (n / BLOCK_SLOTS) i ≡ n → use_changed here a ≡ None → ends_made k.op (ends_of g.chain) ≡ ends_of g.chain
      → (r.chain.names ≡ g.chain.names) × (r.chain.links ≡ g.chain.links) → (block_altered here ≡ Some (n / BLOCK_SLOTS)) × (item_moved here ≡ Some n) × (slot_set here ≡ Some n)
      → ((j : ℕ) → j ≢ n → r.out j ≡ g.out j) → OneSlot g here a r (n / BLOCK_SLOTS) i
  one_item {n = n} at unused ends shape (altered, moved, set) kept = record {
    unused = unused;
    ends = ends;
    shape = shape;
    altered = λ j ne. some_other altered ne;
    moved = λ j ne. some_other moved (λ e. ne (e ∙ sym at));
    set = λ j ne. some_other set (λ e. ne (e ∙ sym at));
    kept = λ j ne. kept j (λ e. ne (e ∙ sym at));
  }

  module _ (te he : Ptr) (g : OutChain A) {who : ℕ} {ms : List (State A)} {k : Stand A} (here : At g.chain who ms k) (a : Answer ℕ) (r : Chain A) (leads : after_of here a ≡ r) (out : ℕ → Bool) where
    abbrev turned : OutChain A
    turned = record { chain = r; out = out }

    module _ (ok : ChainOk g.chain) (bs cs : List (Block A)) (b i : ℕ) (low : i < BLOCK_SLOTS) (one : OneSlot g here a turned b i) (codes : Codes te he g bs) (lt : b < g.chain.blocks) (t : SlotTurns (b + 2) i bs cs) where
      -- one block is another, and every other one is the same
      codes_one : (ds : List (Block A)) → length ds ≡ length bs → ((j : ℕ) → j ≢ b + 2 → block ds j ≡ block bs j) → IsThere turned b (block ds (b + 2)) → Codes te he turned ds
      codes_one ds size other there = codes_made te he g here a r leads out ok bs codes one.unused ds size
          (subst (λ e. EndsAre te he e ds) (sym one.ends) (ends_as te he (ends_of g.chain) bs ds (codes.tail, codes.head) (λ j two. other j (λ e. absurd (omega (arith, e, two))))))
          (λ j within. elim (eqb_tells j b) [
            | inl e ↦ subst (λ n. IsThere turned n (block ds (n + 2))) (sym e.1) there
            | inr e ↦ subst (λ (y : Block A). IsThere turned j y) (sym (other (j + 2) (λ z. e.1 (omega arith))))
                (block_stays te he g here a r leads out ok bs codes j within (one.altered j e.1)
                (λ n less. let other = other_block b j n (item_at b i) e.1 less (omega (arith, low)) in home_stays te he g here a r leads out j n (one.moved (item_at j n) other) (one.kept (item_at j n) other)))
          ])

      -- the slot is another
      pub codes_turned : g.chain.walks b ≢ GivenUp → r.walks b ≢ GivenUp → (r.walks b ≡ Before → g.chain.walks b ≡ Before) → SlotIs turned b i (word_of cs (b + 2) i) (get_elem? (block cs (b + 2)).homes i) → Codes te he turned cs
      codes_turned on stays begun s =
          let there = alive_is te he g bs b codes lt on in
          codes_one cs t.size t.other (
            t.here.at ∙ (there.0.1 ∙ ap (λ (names : ℕ → ℕ). spot (names b)) (sym one.shape.0)),
            inr (
              stays,
              t.here.alive ∙ there.0.0,
              slots_are (t.here.words ∙ there.1.words) (t.here.homes ∙ there.1.homes) (each there.1)
                  (t.here.next ∙ there.1.linked ∙ (λ j. lead_of (linked_of (sym one.shape.1 j b) (sym one.shape.0 j (b + 1))))),
            ),
          )
        where
          each : BlockIs g b (block bs (b + 2)) → (j : ℕ) → j < BLOCK_SLOTS → SlotIs turned b j (word_of cs (b + 2) j) (get_elem? (block cs (b + 2)).homes j)
          each is j less = elim (eqb_tells j i) [
            | inl e ↦ subst (λ n. SlotIs turned b n (word_of cs (b + 2) n) (get_elem? (block cs (b + 2)).homes n)) (sym e.1) s
            | inr e ↦ let ne = other_slot b i j (item_at b i) e.1 refl in
                let was = slot_is is j less in
                let same = subst (λ (z : Chain A). SameSlot g.chain z b j) leads (step_slot here a ok b j less (one.set (item_at b j) ne)) in
                subst (λ n. SlotIs turned b j n (get_elem? (block cs (b + 2)).homes j)) (sym (t.here.word j e.1))
                (slot_same same begun was (t.here.home j e.1 ∙ (was.slot ∙ ap (λ h. some h) (sym (home_stays te he g here a r leads out b j (one.moved (item_at b j) ne) (one.kept (item_at b j) ne))))))
          ]

      -- a walk that ends takes the block out
      pub codes_gone : r.walks b ≡ GivenUp → Codes te he turned (without cs (b + 2))
      codes_gone over =
          let long : b + 2 < length cs = omega (arith, t.size, codes.size, lt) in
          codes_one (without cs (b + 2)) (length-set cs (b + 2) (gone (block cs (b + 2))) ∙ t.size) (λ j ne. gone_else cs (b + 2) j ne ∙ t.other j ne)
          (subst (λ (y : Block A). IsThere turned b y) (sym (gone_here cs (b + 2) long)) (t.here.at ∙ ((codes.there b lt).0 ∙ ap (λ (names : ℕ → ℕ). spot (names b)) (sym one.shape.0)), inl (over, refl)))

  pub vacant_all : (hs : List (Home A)) → ((i : ℕ) → i < length hs → get_elem? hs i ≡ some vacant) → AllVacant hs
  vacant_all [] all = tt
  vacant_all (h ∷ hs) all = (some-injective h vacant (all 0 (omega arith)), vacant_all hs (λ i lt. all (suc i) (omega arith)))

  -- the slot of an item that is read is empty
  read_vacant : (head tail : ℕ) (items : List A) (n : ℕ) (w : Writer A) (b : Bool) → ItemOk head tail items n w Done → home_of w Done b ≡ vacant
  read_vacant head tail items n (Writing p v) b ok = absurd ok
  read_vacant head tail items n w b ok = refl

  read_home : (c : Chain A) (n : ℕ) (b : Bool) → ChainOk c → c.readers n ≡ Done → home_of (c.writers n) Done b ≡ vacant
  read_home c n b ok read = read_vacant c.head c.tail c.items n (c.writers n) b (subst (λ r. ItemOk c.head c.tail c.items n (c.writers n) r) read (ok.item n))

  pub slot_vacant : (g : OutChain A) (b slot : ℕ) (x : Block A) → ChainOk g.chain → BlockIs g b x → slot < BLOCK_SLOTS → g.chain.readers (item_at b slot) ≡ Done → get_elem? x.homes slot ≡ some vacant
  slot_vacant g b slot x ok is low read = is.slot slot low ∙ ap (λ h. some h) (ap (λ r. home_of (g.chain.writers (item_at b slot)) r (g.out (item_at b slot))) read ∙ read_home g.chain (item_at b slot) (g.out (item_at b slot)) ok read)

  -- and a block of which this slot is empty is empty
  pub all_vacant : (g : OutChain A) (b slot : ℕ) (x : Block A) (hs : List (Home A)) → ChainOk g.chain → BlockIs g b x → IsWalked g.chain.readers b slot → slot + 1 ≡ LAST
      → length hs ≡ BLOCK_SLOTS → ((j : ℕ) → j ≢ slot → get_elem? hs j ≡ get_elem? x.homes j) → get_elem? hs slot ≡ some vacant → AllVacant hs
  all_vacant g b slot x hs ok is walked last long other here = vacant_all hs (λ j lt.
      let low : j < BLOCK_SLOTS = subst (λ z. j < z) long lt in
      elim (eqb_tells j slot) [
        | inl t ↦ subst (λ k. get_elem? hs k ≡ some vacant) (sym t.1) here
        | inr t ↦ other j t.1 ∙ slot_vacant g b j x ok is low (others_read g.chain.readers b slot walked last j low t.1)
      ])

  -- what lies in the slot and in the word that were set
  pub home_set : (bs : List (Block A)) (k i : ℕ) (h : Home A) → k < length bs → i < length (block bs k).homes → get_elem? (block (with_home bs k i h) k).homes i ≡ some h
  home_set bs k i h lt low = ap (λ (x : Block A). get_elem? x.homes i) (home_here bs k i h lt) ∙ set_here (block bs k).homes i h low

  pub word_set : (bs : List (Block A)) (k i n : ℕ) → k < length bs → i < length (block bs k).words → word_of (with_word bs k i n) k i ≡ n
  word_set bs k i n lt low = ap (λ (x : Block A). slice_index_or x.words i 0) (word_here bs k i n lt) ∙ get_or-set_same (block bs k).words i n 0 low

  pub home_kept : (bs : List (Block A)) (k i n : ℕ) → k < length bs → (block (with_word bs k i n) k).homes ≡ (block bs k).homes
  home_kept bs k i n lt = ap (λ (x : Block A). x.homes) (word_here bs k i n lt)

  pub word_kept : (bs : List (Block A)) (k i : ℕ) (h : Home A) → k < length bs → (block (with_home bs k i h) k).words ≡ (block bs k).words
  word_kept bs k i h lt = ap (λ (x : Block A). x.words) (home_here bs k i h lt)
