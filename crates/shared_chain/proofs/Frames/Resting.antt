-- A chain on which no call is on its way: each item that was taken is read, each that was not is written, the blocks before the front's are given up, and the
-- others are linked to one another.
use Rattle.queue_laws.proofs.{Chain.ChainTransitions.item_free, Chain.ChainStates.unwalked, Chain.ChainSpan.not_done, Common.Tails.position_tail, Chain.ChainPlaces.place_block, Chain.ChainAnswers.standing_word, Chain.ChainRanks.rests_if, Chain.ChainRanks.stands_if}
use Rattle.std.proofs.Common.{ℕ, ◌+◌, ◌-◌, ◌/◌, ◌<◌, ◌≤◌, ◌≡◌, ◌≢◌, ◌⊎◌, ◌∙◌, inl, inr, Bool, Some, List, refl, sym, ap, subst, arith, slice_get}
use Rattle.queue_laws.specs.{Common.Vocabulary.BLOCK_SLOTS, Chain.ChainFacts.place, Chain.ChainAnswers.head_word}
use Rattle.queue_steps.specs.ChainWords.{block_at}
use Rattle.own_cells.specs.OneChain.ChainMemory.{block_of}
use Rattle.queue_laws.specs.Chain.ChainCells.{Writer, Free, Writing, Wrote, Reader, Unread, Reading, Done, Rests, Passer, Stands, LinkState, Unlinked, Linking, Linked, Shown, Hidden, Showing, Seen, Walk, Before, Walker, Waits, GivenUp, Chain, ItemOk}
use Rattle.queue_laws.specs.Chain.ChainCells.{BlocksOk, LinkOk, FrontOk, ShownOk, WalkOk, ChainOk, Write, Read, Tail, Head, Next, First, Passed, writer_of, reader_of, linker_of, shower_of, walker_of, HoldsOnly, Nothing, item_at, LAST}

-- nobody writes or reads the items of these cells
abbrev NoWriter : {A : Type 0} → Writer A → Type 0
NoWriter w = (p : ℕ) → writer_of w ≢ Some p

abbrev NoReader : Reader → Type 0
NoReader r = (p : ℕ) → reader_of r ≢ Some p

module _ {A : Type 0} (head tail : ℕ) (items : List A) (n : ℕ) where
  taken_item : (w : Writer A) (r : Reader) → head ≤ tail → n < head → NoWriter w → NoReader r → ItemOk head tail items n w r → (r ≡ Done) × ((v : A) × (w ≡ Wrote v))
  taken_item w (Reading p) high lt quiet none ok = absurd (none p refl)
  taken_item (Wrote v) Done high lt quiet none ok = (refl, (v, refl))
  taken_item Free Unread high lt quiet none ok = absurd (omega arith)
  taken_item (Writing p v) Unread high lt quiet none ok = absurd (quiet p refl)
  taken_item (Wrote v) Unread high lt quiet none ok = absurd (let low = ok.0 in omega arith)
  taken_item w Done high lt quiet none ok = absurd ok

  held_item : (w : Writer A) (r : Reader) → head ≤ n → n < tail → NoWriter w → ItemOk head tail items n w r → (r ≡ Unread) × ((v : A) × (w ≡ Wrote v) × (slice_get items (n - head) ≡ Some v))
  held_item (Writing p v) r low lt quiet ok = absurd (quiet p refl)
  held_item Free (Reading p) low lt quiet ok = absurd ok
  held_item Free Done low lt quiet ok = absurd ok
  held_item (Wrote v) Unread low lt quiet ok = (refl, (v, refl, ok.2))
  held_item w r low lt quiet ok = absurd (omega arith)

is_linked : (blocks b : ℕ) (l : LinkState) → ((p : ℕ) → linker_of l ≢ Some p) → LinkOk blocks b l → ((b + 1 < blocks) × (l ≡ Linked)) ⊎ ((blocks ≤ b + 1) × (l ≡ Unlinked))
is_linked blocks b Unlinked none ok = inr (ok, refl)
is_linked blocks b (Linking p) none ok = absurd (none p refl)
is_linked blocks b Linked none ok = inl (ok, refl)

is_seen : (blocks head front : ℕ) (known : Bool) (passer : Passer) (s : Shown) → 0 < blocks → ((p : ℕ) → shower_of s ≢ Some p) → ShownOk blocks head front known passer s → s ≡ Seen
is_seen blocks head front known passer Hidden some none ok = absurd (let z = ok.0 in omega arith)
is_seen blocks head front known passer (Showing p) some none ok = absurd (none p refl)
is_seen blocks head front known passer Seen some none ok = refl

-- a block whose slots are all read is given up
over : (f : ℕ → Reader) (b : ℕ) (w : Walk) → ((i : ℕ) → i < BLOCK_SLOTS → f (item_at b i) ≡ Done) → ((p : ℕ) → walker_of w ≢ Some p) → WalkOk f b w → w ≡ GivenUp
over f b Before all none h = absurd (h (all LAST (omega arith)))
over f b (Walker p slot) all none h = absurd (none p refl)
over f b (Waits slot) all none h = absurd (h.2 (all slot (let lt = h.0 in omega arith)))
over f b GivenUp all none h = refl

module _ {A : Type 0} (c : Chain A) (ok : ChainOk c) (stands : c.passer ≡ Stands) where
  pub standing_front : c.front ≡ c.head / BLOCK_SLOTS
  standing_front = subst (λ p. FrontOk c.head c.front p) stands ok.fronted

  -- where the head stands, over no block from the front's on a walk began
  pub front_before : (b : ℕ) → c.front ≤ b → c.walks b ≡ Before
  front_before b from = unwalked c b ok (not_done c.head c.tail c.items (item_at b LAST) (c.writers (item_at b LAST)) (c.readers (item_at b LAST)) (ok.item (item_at b LAST)) (let e = standing_front in omega arith))

  -- and its word tells the front
  pub word_front : block_of (head_word c) ≡ c.front
  word_front = ap block_of (standing_word c stands) ∙ (ap block_at (position_tail (place c.head) c.known) ∙ (place_block c.head ∙ sym standing_front))

-- No call is on its way
pub record AtRest {A : Type 0} (c : Chain A) : Type 0 where
  pub rests : c.mover ≡ Rests
  pub stands : c.passer ≡ Stands
  pub order : c.head ≤ c.tail
  pub front : c.front ≡ c.head / BLOCK_SLOTS
  pub laid : ((c.tail ≡ 0) × (c.blocks ≡ 0)) ⊎ (c.blocks ≡ c.tail / BLOCK_SLOTS + 1)
  pub seen : 0 < c.blocks → c.shown ≡ Seen
  pub taken : (n : ℕ) → n < c.head → (c.readers n ≡ Done) × ((v : A) × (c.writers n ≡ Wrote v))
  pub held : (n : ℕ) → c.head ≤ n → n < c.tail → (c.readers n ≡ Unread) × ((v : A) × (c.writers n ≡ Wrote v) × (slice_get c.items (n - c.head) ≡ Some v))
  pub free : (n : ℕ) → c.tail ≤ n → (c.readers n ≡ Unread) × (c.writers n ≡ Free)
  pub given : (b : ℕ) → b < c.front → c.walks b ≡ GivenUp
  pub before : (b : ℕ) → c.front ≤ b → c.walks b ≡ Before
  pub linked : (b : ℕ) → ((b + 1 < c.blocks) × (c.links b ≡ Linked)) ⊎ ((c.blocks ≤ b + 1) × (c.links b ≡ Unlinked))

pub at_rest : {A : Type 0} (c : Chain A) → ChainOk c → ((who : ℕ) → HoldsOnly c who Nothing) → AtRest c
at_rest {A} c ok idle = record {
  rests = rests_if c.mover (λ p e. idle p Tail e);
  stands = stands;
  order = order;
  front = front;
  laid = subst (λ m. BlocksOk c.tail c.blocks m) (rests_if c.mover (λ p e. idle p Tail e)) ok.laid;
  seen = λ some. is_seen c.blocks c.head c.front c.known c.passer c.shown some (λ p e. idle p First e) ok.seen;
  taken = taken;
  held = λ n low lt. held_item c.head c.tail c.items n (c.writers n) (c.readers n) low lt (λ p e. idle p (Write n) e) (ok.item n);
  free = λ n low. let f = item_free c n ok low in (f.1, f.0);
  given = λ b lt. over c.readers b (c.walks b) (λ i low. (taken (item_at b i) (let e = front in omega arith)).0) (λ p e. idle p (Passed b) e) (ok.walk b);
  before = front_before c ok stands;
  linked = λ b. is_linked c.blocks b (c.links b) (λ p e. idle p (Next b) e) (ok.link b);
}
  where
    order : c.head ≤ c.tail
    order = let e = ok.count in omega arith

    stands : c.passer ≡ Stands
    stands = stands_if c.passer (λ p e. idle p Head e)

    front : c.front ≡ c.head / BLOCK_SLOTS
    front = standing_front c ok stands

    taken : (n : ℕ) → n < c.head → (c.readers n ≡ Done) × ((v : A) × (c.writers n ≡ Wrote v))
    taken n lt = taken_item c.head c.tail c.items n (c.writers n) (c.readers n) order lt (λ p e. idle p (Write n) e) (λ p e. idle p (Read n) e) (ok.item n)
