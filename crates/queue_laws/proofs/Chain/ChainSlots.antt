-- Which blocks and slots each step of a call leaves as they are, wherever they are kept.
use Rattle.std.proofs.Common.{ℕ, ◌+◌, ◌-◌, ◌*◌, ◌%◌, ◌/◌, ◌<◌, ◌≤◌, ◌≡◌, ◌≢◌, ◌==◌, not, ◌∙◌, inl, inr, zero, suc, Bool, true, false, if◌then◌else◌, Option, Some, None, List, refl, sym, ap, subst, arith}
use Rattle.std.proofs.lemmas.Bool.Decides.{eqb_tells}
use Rattle.queue_steps.specs.{State.State, ChainWords.offset_of}
use Rattle.queue_laws.specs.Common.Vocabulary.{Answer, BLOCK_SLOTS}
use Rattle.queue_laws.specs.{Common.Puts.put, Common.Stand.Stand}
use Rattle.queue_laws.specs.Chain.ChainFacts.{head_of}
use Rattle.queue_laws.specs.Chain.ChainAnswers.{head_word, linked_of, is_wrote, is_done, waits_at, IsState}
use Rattle.queue_laws.specs.Chain.ChainCells.{Writer, Free, Writing, Wrote, Reader, Unread, Reading, Done, Mover, Rests, Laying, BlocksOk, LinkState, Linking, Linked, Walk, Before, Walker, Waits, GivenUp, Use, Chain, LinkOk, ChainOk, item_at, LAST}
use Rattle.queue_laws.specs.Chain.ChainTransitions.{installed, laid_out, walked, walk_after}
use Rattle.queue_laws.specs.Chain.ChainAfter.{if_installed, claimed_if, taken_if, after_of}
use Rattle.queue_laws.specs.Chain.ChainAt.{At, asking, installing, claiming, laying, chaining, writing, taking, reading, beginning, walking, destroying}
use Rattle.queue_laws.proofs.{Common.Puts.put_ok, Common.Puts.put_other, Common.Puts.put_same}
use Rattle.queue_laws.proofs.Chain.{ChainStates.state_same, ChainStates.unwalked, ChainAnswers.head_offset, ChainReads.front_is, ChainAnswers.same_head, ChainRead.waits_is, ChainWalk.walker_ok, ChainTransitions.item_free, ChainTransitions.next_free}

-- what lies in the slot of an item: the item, from its write until it is read
abbrev pub wrote_in : {A : Type 0} → Writer A → Option A
wrote_in (Wrote v) = Some v
wrote_in x = None

abbrev pub lies : {A : Type 0} → Writer A → Reader → Option A
lies w r = if is_done r then None else wrote_in w

pub wrote_alike : {A : Type 0} (w x : Writer A) → wrote_in w ≡ wrote_in x → is_wrote w ≡ is_wrote x
wrote_alike Free (Wrote u) e = cc
wrote_alike (Writing p v) (Wrote u) e = cc
wrote_alike (Wrote v) Free e = cc
wrote_alike (Wrote v) (Writing p u) e = cc
wrote_alike w x e = refl

-- its state word and what lies in it tell the same of the slot i of the block b
pub record SameSlot {A : Type 0} (c s : Chain A) (b i : ℕ) : Type 0 where
  pub wrote : wrote_in (s.writers (item_at b i)) ≡ wrote_in (c.writers (item_at b i))
  pub done : is_done (s.readers (item_at b i)) ≡ is_done (c.readers (item_at b i))
  pub waits : waits_at (s.walks b) i ≡ waits_at (c.walks b) i

pub lies_same : {A : Type 0} {c s : Chain A} {b i : ℕ} → SameSlot c s b i → lies (c.writers (item_at b i)) (c.readers (item_at b i)) ≡ lies (s.writers (item_at b i)) (s.readers (item_at b i))
lies_same same = rw (same.wrote, same.done) refl

-- a state word of such a slot
pub state_kept : {A : Type 0} {c s : Chain A} {b i : ℕ} (x : ℕ) → SameSlot c s b i → IsState c b i x → IsState s b i x
state_kept {c = c} {s = s} {b = b} {i = i} x same = state_same c s b i x (wrote_alike (s.writers (item_at b i)) (c.writers (item_at b i)) same.wrote) same.done same.waits

-- the block b has the same name and link, the walk over it is where it was, and all its slots are the same
pub record SameBlock {A : Type 0} (c s : Chain A) (b : ℕ) : Type 0 where
  pub name : s.names b ≡ c.names b
  pub link : linked_of (s.links b) (s.names (b + 1)) ≡ linked_of (c.links b) (c.names (b + 1))
  pub walk : s.walks b ≡ c.walks b
  pub slot : (i : ℕ) → i < BLOCK_SLOTS → SameSlot c s b i

module _ {A : Type 0} {c : Chain A} {who : ℕ} {ms : List (State A)} where
  -- the item whose slot the step sets, in its word or in what lies there
  abbrev pub slot_set : {k : Stand A} → At c who ms k → Option ℕ
  slot_set (writing d x n name spare holds mine spare_is) = Some n
  slot_set (reading x n name more holds got wrote inner) = Some n
  slot_set (beginning x n name more holds got wrote last) = Some n
  slot_set (destroying x b name slot holds is named) = Some (item_at b slot)
  slot_set _ = None

  -- the item that the step appends, takes, writes or reads
  abbrev pub item_moved : {k : Stand A} → At c who ms k → Option ℕ
  item_moved (claiming d x q name spare none spare_is saw block enough) = Some c.tail
  item_moved (taking n name next more new none is front there word_is room) = Some c.head
  item_moved (writing d x n name spare holds mine spare_is) = Some n
  item_moved (reading x n name more holds got wrote inner) = Some n
  item_moved (beginning x n name more holds got wrote last) = Some n
  item_moved _ = None

  -- the block that the step links to the next one
  abbrev pub link_set : {k : Stand A} → At c who ms k → Option ℕ
  link_set (chaining d x n name f holds mine links named) = Some (n / BLOCK_SLOTS)
  link_set _ = None

  -- the block over which the walk goes on, or is awaited, by the step
  abbrev pub walk_moved : {k : Stand A} → At c who ms k → Option ℕ
  walk_moved (reading x n name more holds got wrote inner) = Some (n / BLOCK_SLOTS)
  walk_moved (beginning x n name more holds got wrote last) = Some (n / BLOCK_SLOTS)
  walk_moved (walking x b name slot holds is named) = Some b
  walk_moved (destroying x b name slot holds is named) = Some b
  walk_moved _ = None

  -- the block that the step links, writes to, reads from or walks over
  abbrev pub block_altered : {k : Stand A} → At c who ms k → Option ℕ
  block_altered (chaining d x n name f holds mine links named) = Some (n / BLOCK_SLOTS)
  block_altered (writing d x n name spare holds mine spare_is) = Some (n / BLOCK_SLOTS)
  block_altered (reading x n name more holds got wrote inner) = Some (n / BLOCK_SLOTS)
  block_altered (beginning x n name more holds got wrote last) = Some (n / BLOCK_SLOTS)
  block_altered (walking x b name slot holds is named) = Some b
  block_altered (destroying x b name slot holds is named) = Some b
  block_altered _ = None

  -- the name that gets another use by the step: of a block that is granted, or becomes the chain's
  abbrev pub use_changed : {k : Stand A} → At c who ms k → Answer ℕ → Option ℕ
  use_changed (asking d x q block none saw asked) (Answer.Granted f) = Some f
  use_changed (installing d x f none saw fresh) a = Some f
  use_changed (laying d x n name f holds mine lays fresh) a = Some f
  use_changed _ a = None

-- a chain with the same items and walks has the same slots
all_same : {A : Type 0} {c s : Chain A} → (s.writers ≡ c.writers) × (s.readers ≡ c.readers) × (s.walks ≡ c.walks) → (b i : ℕ) → SameSlot c s b i
all_same (writers, readers, walks) b i = record {
  wrote = ap (λ f. wrote_in (f (item_at b i))) writers;
  done = ap (λ f. is_done (f (item_at b i))) readers;
  waits = ap (λ f. waits_at (f b) i) walks;
}

-- a walk that goes on behind a slot waits for none
none_after : (who slot i : ℕ) → waits_at (walk_after who slot) i ≡ false
none_after who slot i = elim (slot + 1 == LAST) as (λ t. waits_at (if t then GivenUp else Walker who (slot + 1)) i ≡ false) [ true ↦ refl | false ↦ refl ]

none_else : (slot i : ℕ) → i ≢ slot → waits_at (Waits slot) i ≡ false
none_else slot i ne = elim (eqb_tells slot i) [ inl t ↦ absurd (ne (sym t.1)) | inr t ↦ t.0 ]

-- two slots of one block are those of two items
apart : (b i n j : ℕ) → j ≡ n % BLOCK_SLOTS → item_at b i ≢ n → b ≡ n / BLOCK_SLOTS → i ≢ j
apart b i n j at ne own same = ne (omega arith)

-- the blocks of a chain, and the walks over them
abbrev shape : {A : Type 0} → Chain A → (ℕ → ℕ) × ℕ × (ℕ → Use) × (ℕ → LinkState) × (ℕ → Walk)
shape c = (c.names, c.blocks, c.uses, c.links, c.walks)

module _ {A : Type 0} (c : Chain A) (who : ℕ) where
  -- the exchange of the tail, and that of the head, leave the blocks and walks as they are
  claimed_shape : (v : A) (t last : Bool) → shape (claimed_if c who v t last) ≡ shape c
  claimed_shape v true true = refl
  claimed_shape v true false = refl
  claimed_shape v false last = refl

  taken_shape : (t new last : Bool) → shape (taken_if c who new t last) ≡ shape c
  taken_shape true new true = refl
  taken_shape true new false = refl
  taken_shape false new last = refl

  -- the walk of one block is another now
  waits_put : (w : Walk) (e b i : ℕ) → (b ≡ e → waits_at w i ≡ waits_at (c.walks e) i) → waits_at (put c.walks e w b) i ≡ waits_at (c.walks b) i
  waits_put w e b i here = elim (eqb_tells b e) [
    | inl t ↦ subst (λ j. waits_at (put c.walks e w j) i ≡ waits_at (c.walks j) i) (sym t.1) (ap (λ x. waits_at x i) (put_same c.walks e w) ∙ here t.1)
    | inr t ↦ ap (λ x. waits_at x i) (put_other c.walks e b w t.1)
  ]

  claim_slot : (v : A) (t last : Bool) (b i : ℕ) → ChainOk c → SameSlot c (claimed_if c who v t last) b i
  claim_slot v true true b i ok = record { wrote = put_ok c.writers c.tail (item_at b i) (Writing who v) (λ n w. wrote_in w ≡ wrote_in (c.writers n)) (sym (ap (λ w. wrote_in w) (next_free c ok).0)) (λ ne. refl); done = refl; waits = refl }
  claim_slot v true false b i ok = record { wrote = put_ok c.writers c.tail (item_at b i) (Writing who v) (λ n w. wrote_in w ≡ wrote_in (c.writers n)) (sym (ap (λ w. wrote_in w) (next_free c ok).0)) (λ ne. refl); done = refl; waits = refl }
  claim_slot v false last b i ok = record { wrote = refl; done = refl; waits = refl }

  take_slot : (new t last : Bool) (b i : ℕ) → c.readers c.head ≡ Unread → SameSlot c (taken_if c who new t last) b i
  take_slot new true true b i unread = record { wrote = refl; done = put_ok c.readers c.head (item_at b i) (Reading who) (λ n r. is_done r ≡ is_done (c.readers n)) (sym (ap is_done unread)) (λ ne. refl); waits = refl }
  take_slot new true false b i unread = record { wrote = refl; done = put_ok c.readers c.head (item_at b i) (Reading who) (λ n r. is_done r ≡ is_done (c.readers n)) (sym (ap is_done unread)) (λ ne. refl); waits = refl }
  take_slot new false last b i unread = record { wrote = refl; done = refl; waits = refl }

-- a step leaves each slot but the one that it sets
pub step_slot : {A : Type 0} {c : Chain A} {who : ℕ} {ms : List (State A)} {k : Stand A} (at : At c who ms k) (a : Answer ℕ) → ChainOk c → (b i : ℕ) → i < BLOCK_SLOTS → slot_set at ≢ Some (item_at b i) → SameSlot c (after_of at a) b i
step_slot (asking d x q block none saw asked) (Answer.Granted f) ok b i low ne = all_same (refl, refl, refl) b i
step_slot {c = c} {who = who} (installing d x f none saw fresh) a ok b i low ne = elim c.blocks as (λ n. SameSlot c (if_installed c who f n) b i) [ zero ↦ all_same (refl, refl, refl) b i | suc n ↦ all_same (refl, refl, refl) b i ]
step_slot {c = c} {who = who} (claiming d x q name spare none spare_is saw block enough) a ok b i low ne = claim_slot c who x _ _ b i ok
step_slot {c = c} {who = who} (taking n name next more new none is front there word_is room) a ok b i low ne = elim (eqb_tells (head_word c) (head_of n more)) [
  | inl e ↦ take_slot c who new _ _ b i (front_is c ok (let at = (same_head c n more ok is e.1).1 in omega arith)).0
  | inr e ↦ subst (λ t. SameSlot c (taken_if c who new t (offset_of (head_of n more) + 1 == BLOCK_SLOTS)) b i) (sym e.0) (all_same (refl, refl, refl) b i)
]
step_slot {c = c} (writing d x n name spare holds mine spare_is) a ok b i low ne = record { wrote = ap (λ w. wrote_in w) (put_other c.writers n (item_at b i) (Wrote x) (λ e. ne (ap (λ m. Some m) (sym e)))); done = refl; waits = refl }
step_slot {c = c} {who = who} (reading x n name more holds got wrote inner) a ok b i low ne = record {
  wrote = refl;
  done = ap is_done (put_other c.readers n (item_at b i) Done (λ e. ne (ap (λ m. Some m) (sym e))));
  waits = waits_put c who _ (n / BLOCK_SLOTS) b i (λ own. go (waits_at (c.walks (n / BLOCK_SLOTS)) (offset_of (head_of n more))) refl (apart b i n (offset_of (head_of n more)) (head_offset n more) (λ e. ne (ap (λ m. Some m) (sym e))) own));
}
  where
    slot : ℕ
    slot = offset_of (head_of n more)

    go : (t : Bool) → waits_at (c.walks (n / BLOCK_SLOTS)) slot ≡ t → i ≢ slot → waits_at (if t then walk_after who slot else c.walks (n / BLOCK_SLOTS)) i ≡ waits_at (c.walks (n / BLOCK_SLOTS)) i
    go true e other = none_after who slot i ∙ sym (ap (λ w. waits_at w i) (waits_is (c.walks (n / BLOCK_SLOTS)) slot e) ∙ none_else slot i other)
    go false e other = refl
step_slot {c = c} {who = who} (beginning x n name more holds got wrote last) a ok b i low ne = record {
  wrote = refl;
  done = ap is_done (put_other c.readers n (item_at b i) Done (λ e. ne (ap (λ m. Some m) (sym e))));
  waits = waits_put c who _ (n / BLOCK_SLOTS) b i (λ own. go (is_done (c.readers (item_at (n / BLOCK_SLOTS) 0))) ∙ sym (ap (λ w. waits_at w i) before));
}
  where
    before : c.walks (n / BLOCK_SLOTS) ≡ Before
    before = unwalked c (n / BLOCK_SLOTS) ok (λ e. let at : item_at (n / BLOCK_SLOTS) LAST ≡ n = omega (arith, last) in let z : Reading who ≡ Done = sym got.mine ∙ (ap c.readers (sym at) ∙ e) in cc)

    go : (t : Bool) → waits_at (if t then walk_after who 0 else Walker who 0) i ≡ false
    go true = none_after who 0 i
    go false = refl
step_slot {c = c} {who = who} (walking x e name slot holds is named) a ok b i low ne = go (is_done (c.readers (item_at e slot)))
  where
    go : (t : Bool) → SameSlot c (if t then walked c e (walk_after who slot) else c) b i
    go true = record { wrote = refl; done = refl; waits = waits_put c who (walk_after who slot) e b i (λ own. none_after who slot i ∙ sym (ap (λ w. waits_at w i) is)) }
    go false = all_same (refl, refl, refl) b i
step_slot {c = c} {who = who} (destroying x e name slot holds is named) a ok b i low ne = record {
  wrote = refl;
  done = refl;
  waits = waits_put c who _ e b i (λ own. go (is_done (c.readers (item_at e slot))) (λ same. ne (ap (λ m. Some m) (λ j. item_at (sym own j) (sym same j)))) ∙ sym (ap (λ w. waits_at w i) is));
}
  where
    go : (t : Bool) → i ≢ slot → waits_at (if t then walk_after who slot else Waits slot) i ≡ false
    go true other = none_after who slot i
    go false other = none_else slot i other
step_slot at a ok b i low ne = all_same (refl, refl, refl) b i

-- a block that is not the last leads to the same where another one gets a name
lead_more : {A : Type 0} (c : Chain A) (f b : ℕ) → ChainOk c → linked_of (c.links b) (put c.names c.blocks f (b + 1)) ≡ linked_of (c.links b) (c.names (b + 1))
lead_more {A} c f b ok = go (c.links b) (ok.link b)
  where
    go : (l : LinkState) → LinkOk c.blocks b l → linked_of l (put c.names c.blocks f (b + 1)) ≡ linked_of l (c.names (b + 1))
    go Linked h = ap (λ n. Some n) (put_other c.names c.blocks (b + 1) f (λ e. absurd (omega arith)))
    go l h = refl

-- the last block leads nowhere
pub unlinked : {A : Type 0} (c : Chain A) (b name : ℕ) → ChainOk c → c.blocks ≤ b + 1 → linked_of (c.links b) name ≡ None
unlinked {A} c b name ok high = go (c.links b) (ok.link b)
  where
    go : (l : LinkState) → LinkOk c.blocks b l → linked_of l name ≡ None
    go Linked h = absurd (omega arith)
    go l h = refl

some_is : {n m : ℕ} → Some n ≡ Some m → n ≡ m
some_is e = cc

-- each block has its name after a step
pub step_name : {A : Type 0} {c : Chain A} {who : ℕ} {ms : List (State A)} {k : Stand A} (at : At c who ms k) (a : Answer ℕ) (b : ℕ) → b < c.blocks → (after_of at a).names b ≡ c.names b
step_name (asking d x q block none saw asked) (Answer.Granted f) b lt = refl
step_name {c = c} {who = who} (installing d x f none saw fresh) a b lt = elim c.blocks as (λ n. (if_installed c who f n).names b ≡ c.names b) [ zero ↦ put_other c.names c.blocks b f (λ e. absurd (omega arith)) | suc n ↦ refl ]
step_name {c = c} {who = who} (claiming d x q name spare none spare_is saw block enough) a b lt = ap (λ z. z.0 b) (claimed_shape c who x _ _)
step_name {c = c} {who = who} (taking n name next more new none is front there word_is room) a b lt = ap (λ z. z.0 b) (taken_shape c who _ new _)
step_name {c = c} (laying d x n name f holds mine lays fresh) a b lt = put_other c.names c.blocks b f (λ e. absurd (omega arith))
step_name {A} {c = c} {who = who} (walking x e name slot holds is named) a b lt = elim (is_done (c.readers (item_at e slot))) as (λ t. (let s : Chain A = if t then walked c e (walk_after who slot) else c in s.names b ≡ c.names b)) [ true ↦ refl | false ↦ refl ]
step_name at a b lt = refl

-- and leads where it did, but for the one that the step links to the next one
pub step_link : {A : Type 0} {c : Chain A} {who : ℕ} {ms : List (State A)} {k : Stand A} (at : At c who ms k) (a : Answer ℕ) → ChainOk c → (b : ℕ) → link_set at ≢ Some b
    → linked_of ((after_of at a).links b) ((after_of at a).names (b + 1)) ≡ linked_of (c.links b) (c.names (b + 1))
step_link (asking d x q block none saw asked) (Answer.Granted f) ok b ne = refl
step_link {A} {c = c} {who = who} (installing d x f none saw fresh) a ok b ne = elim c.blocks as (λ n. (let s : Chain A = if_installed c who f n in linked_of (s.links b) (s.names (b + 1)) ≡ linked_of (c.links b) (c.names (b + 1)))) [ zero ↦ lead_more c f b ok | suc n ↦ refl ]
step_link {c = c} {who = who} (claiming d x q name spare none spare_is saw block enough) a ok b ne = ap (λ z. linked_of (z.3 b) (z.0 (b + 1))) (claimed_shape c who x _ _)
step_link {c = c} {who = who} (taking n name next more new none is front there word_is room) a ok b ne = ap (λ z. linked_of (z.3 b) (z.0 (b + 1))) (taken_shape c who _ new _)
step_link {c = c} {who = who} (laying d x n name f holds mine lays fresh) a ok b ne =
    let some = (subst (λ m. BlocksOk c.tail c.blocks m) lays.0 ok.laid).0 in
    put_ok c.links (c.blocks - 1) b (Linking who) (λ j l. linked_of l (put c.names c.blocks f (j + 1)) ≡ linked_of (c.links j) (c.names (j + 1)))
    (sym (unlinked c (c.blocks - 1) (c.names (c.blocks - 1 + 1)) ok (omega arith))) (λ other. lead_more c f b ok)
step_link {c = c} (chaining d x n name f holds mine links named) a ok b ne = ap (λ l. linked_of l (c.names (b + 1))) (put_other c.links (n / BLOCK_SLOTS) b Linked (λ e. ne (ap (λ m. Some m) (sym e))))
step_link {A} {c = c} {who = who} (walking x e name slot holds is named) a ok b ne = elim (is_done (c.readers (item_at e slot))) as (λ t. (let s : Chain A = if t then walked c e (walk_after who slot) else c in linked_of (s.links b) (s.names (b + 1)) ≡ linked_of (c.links b) (c.names (b + 1)))) [ true ↦ refl | false ↦ refl ]
step_link at a ok b ne = refl

-- and the walk over it is where it was, but for the one whose walk goes on
pub step_walk : {A : Type 0} {c : Chain A} {who : ℕ} {ms : List (State A)} {k : Stand A} (at : At c who ms k) (a : Answer ℕ) (b : ℕ) → walk_moved at ≢ Some b → (after_of at a).walks b ≡ c.walks b
step_walk (asking d x q block none saw asked) (Answer.Granted f) b ne = refl
step_walk {c = c} {who = who} (installing d x f none saw fresh) a b ne = elim c.blocks as (λ n. (if_installed c who f n).walks b ≡ c.walks b) [ zero ↦ refl | suc n ↦ refl ]
step_walk {c = c} {who = who} (claiming d x q name spare none spare_is saw block enough) a b ne = ap (λ z. z.4 b) (claimed_shape c who x _ _)
step_walk {c = c} {who = who} (taking n name next more new none is front there word_is room) a b ne = ap (λ z. z.4 b) (taken_shape c who _ new _)
step_walk {c = c} (reading x n name more holds got wrote inner) a b ne = put_other c.walks (n / BLOCK_SLOTS) b _ (λ e. ne (ap (λ m. Some m) (sym e)))
step_walk {c = c} (beginning x n name more holds got wrote last) a b ne = put_other c.walks (n / BLOCK_SLOTS) b _ (λ e. ne (ap (λ m. Some m) (sym e)))
step_walk {A} {c = c} {who = who} (walking x e name slot holds is named) a b ne = elim (is_done (c.readers (item_at e slot))) as (λ t. (let s : Chain A = if t then walked c e (walk_after who slot) else c in s.walks b ≡ c.walks b)) [
  | true ↦ put_other c.walks e b _ (λ z. ne (ap (λ m. Some m) (sym z)))
  | false ↦ refl
]
step_walk {c = c} (destroying x e name slot holds is named) a b ne = put_other c.walks e b _ (λ z. ne (ap (λ m. Some m) (sym z)))
step_walk at a b ne = refl

module _ {A : Type 0} {c : Chain A} {who : ℕ} {ms : List (State A)} where
  -- a step alters the block that it links, over which it walks, and of which it sets a slot
  links_altered : {k : Stand A} (at : At c who ms k) (b : ℕ) → link_set at ≡ Some b → block_altered at ≡ Some b
  links_altered (chaining d x n name f holds mine links named) b e = e
  links_altered at b e = let z : None ≡ Some b = e in cc

  walks_altered : {k : Stand A} (at : At c who ms k) (b : ℕ) → walk_moved at ≡ Some b → block_altered at ≡ Some b
  walks_altered (reading x n name more holds got wrote inner) b e = e
  walks_altered (beginning x n name more holds got wrote last) b e = e
  walks_altered (walking x e name slot holds is named) b s = s
  walks_altered (destroying x e name slot holds is named) b s = s
  walks_altered at b e = let z : None ≡ Some b = e in cc

  slots_altered : {k : Stand A} (at : At c who ms k) (b i : ℕ) → ChainOk c → i < BLOCK_SLOTS → slot_set at ≡ Some (item_at b i) → block_altered at ≡ Some b
  slots_altered (writing d x n name spare holds mine spare_is) b i ok low e = ap (λ m. Some m) (let z = some_is e in omega arith)
  slots_altered (reading x n name more holds got wrote inner) b i ok low e = ap (λ m. Some m) (let z = some_is e in omega arith)
  slots_altered (beginning x n name more holds got wrote last) b i ok low e = ap (λ m. Some m) (let z = some_is e in omega arith)
  slots_altered (destroying x j name slot holds is named) b i ok low e = ap (λ m. Some m) (let z = some_is e in let inner = (walker_ok c who j slot ok is).0 in omega arith)
  slots_altered at b i ok low e = let z : None ≡ Some (item_at b i) = e in cc

-- a step leaves each block but the one that it alters
pub step_block : {A : Type 0} {c : Chain A} {who : ℕ} {ms : List (State A)} {k : Stand A} (at : At c who ms k) (a : Answer ℕ) → ChainOk c → (b : ℕ) → b < c.blocks → block_altered at ≢ Some b → SameBlock c (after_of at a) b
step_block at a ok b lt ne = record {
  name = step_name at a b lt;
  link = step_link at a ok b (λ e. ne (links_altered at b e));
  walk = step_walk at a b (λ e. ne (walks_altered at b e));
  slot = λ i low. step_slot at a ok b i low (λ e. ne (slots_altered at b i ok low e));
}

-- a step that gives no name another use leaves the uses of names, and how many blocks there are
pub step_uses : {A : Type 0} {c : Chain A} {who : ℕ} {ms : List (State A)} {k : Stand A} (at : At c who ms k) (a : Answer ℕ) → use_changed at a ≡ None → ((after_of at a).uses ≡ c.uses) × ((after_of at a).blocks ≡ c.blocks)
step_uses (asking d x q block none saw asked) (Answer.Granted f) e = let z : Some f ≡ None = e in cc
step_uses (installing d x f none saw fresh) a e = let z : Some f ≡ None = e in cc
step_uses (laying d x n name f holds mine lays fresh) a e = let z : Some f ≡ None = e in cc
step_uses {c = c} {who = who} (claiming d x q name spare none spare_is saw block enough) a e = let same = claimed_shape c who x _ _ in (ap (λ z. z.2) same, ap (λ z. z.1) same)
step_uses {c = c} {who = who} (taking n name next more new none is front there word_is room) a e = let same = taken_shape c who _ new _ in (ap (λ z. z.2) same, ap (λ z. z.1) same)
step_uses {A} {c = c} {who = who} (walking x b name slot holds is named) a e = elim (is_done (c.readers (item_at b slot))) as (λ t. (let s : Chain A = if t then walked c b (walk_after who slot) else c in (s.uses ≡ c.uses) × (s.blocks ≡ c.blocks))) [ true ↦ (refl, refl) | false ↦ (refl, refl) ]
step_uses at a e = (refl, refl)

-- a step leaves each item but the one that it moves
pub step_item : {A : Type 0} {c : Chain A} {who : ℕ} {ms : List (State A)} {k : Stand A} (at : At c who ms k) (a : Answer ℕ) (n : ℕ) → item_moved at ≢ Some n → ((after_of at a).writers n ≡ c.writers n) × ((after_of at a).readers n ≡ c.readers n)
step_item (asking d x q block none saw asked) (Answer.Granted f) n ne = (refl, refl)
step_item {A} {c = c} {who = who} (installing d x f none saw fresh) a n ne = elim c.blocks as (λ b. (let s : Chain A = if_installed c who f b in (s.writers n ≡ c.writers n) × (s.readers n ≡ c.readers n))) [ zero ↦ (refl, refl) | suc b ↦ (refl, refl) ]
step_item {A} {c = c} {who = who} (claiming d x q name spare none spare_is saw block enough) a n ne = go _ _
  where
    go : (t last : Bool) → (let s : Chain A = claimed_if c who x t last in (s.writers n ≡ c.writers n) × (s.readers n ≡ c.readers n))
    go true true = (put_other c.writers c.tail n (Writing who x) (λ e. ne (ap (λ m. Some m) (sym e))), refl)
    go true false = (put_other c.writers c.tail n (Writing who x) (λ e. ne (ap (λ m. Some m) (sym e))), refl)
    go false last = (refl, refl)
step_item {A} {c = c} {who = who} (taking i name next more new none is front there word_is room) a n ne = go _ _
  where
    go : (t last : Bool) → (let s : Chain A = taken_if c who new t last in (s.writers n ≡ c.writers n) × (s.readers n ≡ c.readers n))
    go true true = (refl, put_other c.readers c.head n (Reading who) (λ e. ne (ap (λ m. Some m) (sym e))))
    go true false = (refl, put_other c.readers c.head n (Reading who) (λ e. ne (ap (λ m. Some m) (sym e))))
    go false last = (refl, refl)
step_item {c = c} (writing d x i name spare holds mine spare_is) a n ne = (put_other c.writers i n (Wrote x) (λ e. ne (ap (λ m. Some m) (sym e))), refl)
step_item {c = c} (reading x i name more holds got wrote inner) a n ne = (refl, put_other c.readers i n Done (λ e. ne (ap (λ m. Some m) (sym e))))
step_item {c = c} (beginning x i name more holds got wrote last) a n ne = (refl, put_other c.readers i n Done (λ e. ne (ap (λ m. Some m) (sym e))))
step_item {A} {c = c} {who = who} (walking x b name slot holds is named) a n ne = elim (is_done (c.readers (item_at b slot))) as (λ t. (let s : Chain A = if t then walked c b (walk_after who slot) else c in (s.writers n ≡ c.writers n) × (s.readers n ≡ c.readers n))) [ true ↦ (refl, refl) | false ↦ (refl, refl) ]
step_item at a n ne = (refl, refl)

-- the chain's next block: its items are free, no walk began over it, and it leads nowhere
pub record IsFresh {A : Type 0} (s : Chain A) (b f : ℕ) : Type 0 where
  pub name : s.names b ≡ f
  pub link : linked_of (s.links b) (s.names (b + 1)) ≡ None
  pub walk : s.walks b ≡ Before
  pub free : (i : ℕ) → (s.writers (item_at b i) ≡ Free) × (s.readers (item_at b i) ≡ Unread)

-- no bit of its state words is set
pub fresh_state : {A : Type 0} {s : Chain A} {b f : ℕ} (i : ℕ) → IsFresh s b f → IsState s b i 0
fresh_state i fresh = record {
  written = ap (λ w. not (is_wrote w)) (sym (fresh.free i).0);
  read = ap (λ r. not (is_done r)) (sym (fresh.free i).1);
  destroyed = λ ne. ap (λ w. not (waits_at w i)) (sym fresh.walk);
}

-- the items of the next block are all beyond the tail
pub next_items : (tail blocks : ℕ) (m : Mover) → BlocksOk tail blocks m → tail ≤ blocks * BLOCK_SLOTS
next_items tail blocks Rests (inl h) = let e = h.0 in omega arith
next_items tail blocks Rests (inr e) = omega arith
next_items tail blocks m h = let e = h.1 in omega arith

module _ {A : Type 0} (c : Chain A) (who f : ℕ) (ok : ChainOk c) where
  next_unused : (i : ℕ) → (c.writers (item_at c.blocks i) ≡ Free) × (c.readers (item_at c.blocks i) ≡ Unread)
  next_unused i = item_free c (item_at c.blocks i) ok (let h = next_items c.tail c.blocks c.mover ok.laid in omega arith)

  next_unwalked : c.walks c.blocks ≡ Before
  next_unwalked = unwalked c c.blocks ok (λ e. let z : Unread ≡ Done = sym (next_unused LAST).1 ∙ e in cc)

  pub install_fresh : IsFresh (installed c who f) c.blocks f
  install_fresh = record { name = put_same c.names c.blocks f; link = unlinked c c.blocks (put c.names c.blocks f (c.blocks + 1)) ok (omega arith); walk = next_unwalked; free = next_unused }

  pub lay_fresh : c.mover ≡ Laying who → IsFresh (laid_out c who f) c.blocks f
  lay_fresh lays =
      let some = (subst (λ m. BlocksOk c.tail c.blocks m) lays ok.laid).0 in
      record {
        name = put_same c.names c.blocks f;
        link = ap (λ l. linked_of l (put c.names c.blocks f (c.blocks + 1))) (put_other c.links (c.blocks - 1) c.blocks (Linking who) (λ e. absurd (omega arith))) ∙ unlinked c c.blocks (put c.names c.blocks f (c.blocks + 1)) ok (omega arith);
        walk = next_unwalked;
        free = next_unused;
      }
