-- Which block a party keeps alive: its spare, or a passed block that it still reads or walks over. It is never two.
use Rattle.std.proofs.Common.{ℕ, ◌/◌, ◌≡◌, ◌≢◌, ◌∙◌, ◌⊎◌, inl, inr, Bool, true, false, Option, Some, None, List, refl, sym, ap}
use Rattle.queue_laws.specs.{Common.Vocabulary.BLOCK_SLOTS, Common.Stand.Stand, Chain.ChainPasses.spare_in, Chain.ChainPasses.Spares}
use Rattle.queue_steps.specs.State.{State}
use Rattle.queue_laws.specs.Chain.ChainCells.{Reading, Laying, Opening, Walker, Spare, Chain, Part, Write, Read, Tail, Head, Next, First, Passed, reader_of, mover_of, walker_of, HoldsOnly, Nothing}
use Rattle.queue_laws.specs.Chain.ChainAt.{Only, Either, At, push_tail, push_block, asking, installing, showing, claiming, laying, opening, chaining, writing, spending, pop_head, pop_block, pop_tail, taking, following, peeking, passing, entering, awaiting, reading, beginning, walking, destroying}
use Rattle.queue_laws.specs.Chain.ChainAt.{count_tail, count_head, count_again, empty_head, empty_tail, closing, closed_tail}

-- what a party has in its hands: nothing, a spare of this name, or a passed block of this number
pub data Hand : Type 0 where
  Empty : Hand
  OfSpare : ℕ → Hand
  OfBlock : ℕ → Hand

-- all that keeps a block alive for the party is in its hand, and who is to lay a block has one
pub record InHand {A : Type 0} (c : Chain A) (who : ℕ) (h : Hand) : Type 0 where
  pub spares : (f : ℕ) → c.uses f ≡ Spare who → h ≡ OfSpare f
  pub reads : (n : ℕ) → c.readers n ≡ Reading who → h ≡ OfBlock (n / BLOCK_SLOTS)
  pub walks : (b slot : ℕ) → c.walks b ≡ Walker who slot → h ≡ OfBlock b
  pub lays : c.mover ≡ Laying who → (f : ℕ) × (c.uses f ≡ Spare who)

-- the hand of a party that has this spare at most
abbrev spare_hand : Option ℕ → Hand
spare_hand None = Empty
spare_hand (Some f) = OfSpare f

-- a party that reads and walks nothing
with_spare : {A : Type 0} (c : Chain A) (who : ℕ) (spare : Option ℕ) (P : Part → Type 0) → HoldsOnly c who P → ((n : ℕ) → P (Read n) → ⊥) → ((b : ℕ) → P (Passed b) → ⊥)
    → (c.mover ≡ Laying who → (f : ℕ) × (c.uses f ≡ Spare who)) → Spares c who spare → (h : Hand) × InHand c who h
with_spare c who spare P holds no_read no_walk lays only = (
  spare_hand spare,
  record {
    spares = λ f e. ap spare_hand (only f e);
    reads = λ n e. absurd (no_read n (holds (Read n) (ap reader_of e)));
    walks = λ b slot e. absurd (no_walk b (holds (Passed b) (ap walker_of e)));
    lays = lays;
  },
)

-- a party that holds nothing
pub idle_hand : {A : Type 0} (c : Chain A) (who : ℕ) → HoldsOnly c who Nothing → Spares c who None → InHand c who Empty
idle_hand c who none only = record {
  spares = λ f e. ap spare_hand (only f e);
  reads = λ n e. absurd (none (Read n) (ap reader_of e));
  walks = λ b slot e. absurd (none (Passed b) (ap walker_of e));
  lays = λ e. absurd (none Tail (ap mover_of e));
}

with_nothing : {A : Type 0} (c : Chain A) (who : ℕ) (spare : Option ℕ) → HoldsOnly c who Nothing → Spares c who spare → (h : Hand) × InHand c who h
with_nothing c who spare none only = with_spare c who spare Nothing none (λ n z. z) (λ b z. z) (λ e. absurd (none Tail (ap mover_of e))) only

-- a party that reads this item alone
with_read : {A : Type 0} (c : Chain A) (who n : ℕ) (P : Part → Type 0) → HoldsOnly c who P → ((m : ℕ) → P (Read m) → m ≡ n) → ((b : ℕ) → P (Passed b) → ⊥) → (P Tail → ⊥) → Spares c who None → (h : Hand) × InHand c who h
with_read c who n P holds this_read no_walk no_tail only = (
  OfBlock (n / BLOCK_SLOTS),
  record {
    spares = λ f e. let z = only f e in cc;
    reads = λ m e. ap (λ i. OfBlock (i / BLOCK_SLOTS)) (sym (this_read m (holds (Read m) (ap reader_of e))));
    walks = λ b slot e. absurd (no_walk b (holds (Passed b) (ap walker_of e)));
    lays = λ e. absurd (no_tail (holds Tail (ap mover_of e)));
  },
)

only_read : {A : Type 0} (c : Chain A) (who n : ℕ) → HoldsOnly c who (Only (Read n)) → Spares c who None → (h : Hand) × InHand c who h
only_read c who n holds only = with_read c who n (Only (Read n)) holds (λ m z. cc) (λ b z. cc) (λ z. cc) only

read_and_head : {A : Type 0} (c : Chain A) (who n : ℕ) → HoldsOnly c who (Either (Read n) Head) → Spares c who None → (h : Hand) × InHand c who h
read_and_head c who n holds only =
    with_read c who n (Either (Read n) Head) holds (λ m z. elim z [ inl e ↦ cc | inr e ↦ absurd (cc) ]) (λ b z. elim z [ inl e ↦ cc | inr e ↦ cc ]) (λ z. elim z [ inl e ↦ cc | inr e ↦ cc ]) only

-- a party that walks over this block
with_walk : {A : Type 0} (c : Chain A) (who b : ℕ) → HoldsOnly c who (Only (Passed b)) → Spares c who None → (h : Hand) × InHand c who h
with_walk c who b holds only = (
  OfBlock b,
  record {
    spares = λ f e. let z = only f e in cc;
    reads = λ n e. absurd (let z = holds (Read n) (ap reader_of e) in cc);
    walks = λ i slot e. let z = holds (Passed i) (ap walker_of e) in ap OfBlock (let y : b ≡ i = cc in y);
    lays = λ e. absurd (let z = holds Tail (ap mover_of e) in cc);
  },
)

-- what a party has in its hand at each place of its call
pub in_hand : {A : Type 0} {c : Chain A} {who : ℕ} {ms : List (State A)} {k : Stand A} → At c who ms k → Spares c who (spare_in k.local) → (h : Hand) × InHand c who h
in_hand {c = c} {who = who} (push_tail d x spare none spare_is) only = with_nothing c who spare none only
in_hand {c = c} {who = who} (push_block d x spare q none spare_is saw) only = with_nothing c who spare none only
in_hand {c = c} {who = who} (asking d x q block none saw asked) only = with_nothing c who None none only
in_hand {c = c} {who = who} (installing d x f none saw fresh) only = with_nothing c who (Some f) none only
in_hand {c = c} {who = who} (showing d x name first saw is named) only = with_spare c who None (Only First) first (λ n z. cc) (λ b z. cc) (λ e. absurd (let z = first Tail (ap mover_of e) in cc)) only
in_hand {c = c} {who = who} (claiming d x q name spare none spare_is saw block enough) only = with_nothing c who spare none only
in_hand {c = c} {who = who} (laying d x n name f holds mine lays fresh) only =
    with_spare c who (Some f) (Either (Write n) Tail) holds (λ m z. elim z [ inl e ↦ cc | inr e ↦ cc ]) (λ b z. elim z [ inl e ↦ cc | inr e ↦ cc ]) (λ e. (f, fresh)) only
in_hand {c = c} {who = who} (opening d x n name f holds mine opens links named) only =
    with_spare c who None (λ x. (x ≡ Write n) ⊎ (x ≡ Tail) ⊎ (x ≡ Next (n / BLOCK_SLOTS))) holds (λ m z. three z (λ e. cc) (λ e. cc) (λ e. cc)) (λ b z. three z (λ e. cc) (λ e. cc) (λ e. cc))
    (λ e. absurd (let z : Opening who ≡ Laying who = sym opens.0 ∙ e in cc)) only
  where
    three : {x p q r : Part} → (x ≡ p) ⊎ (x ≡ q) ⊎ (x ≡ r) → (x ≡ p → ⊥) → (x ≡ q → ⊥) → (x ≡ r → ⊥) → ⊥
    three (inl e) a b c = a e
    three (inr (inl e)) a b c = b e
    three (inr (inr e)) a b c = c e
in_hand {c = c} {who = who} (chaining d x n name f holds mine links named) only =
    with_spare c who None (Either (Write n) (Next (n / BLOCK_SLOTS))) holds (λ m z. elim z [ inl e ↦ cc | inr e ↦ cc ]) (λ b z. elim z [ inl e ↦ cc | inr e ↦ cc ])
    (λ e. absurd (elim (holds Tail (ap mover_of e)) [ inl z ↦ cc | inr z ↦ cc ])) only
in_hand {c = c} {who = who} (writing d x n name spare holds mine spare_is) only = with_spare c who spare (Only (Write n)) holds (λ m z. cc) (λ b z. cc) (λ e. absurd (let z = holds Tail (ap mover_of e) in cc)) only
in_hand {c = c} {who = who} (spending d x spare none spare_is spent) only = with_nothing c who spare none only
in_hand {c = c} {who = who} (pop_head none) only = with_nothing c who None none only
in_hand {c = c} {who = who} (pop_block n more none is room) only = with_nothing c who None none only
in_hand {c = c} {who = who} (pop_tail n block none is front) only = with_nothing c who None none only
in_hand {c = c} {who = who} (taking n name next more new none is front there word_is room) only = with_nothing c who None none only
in_hand {c = c} {who = who} (following x n name more holds got pass) only = read_and_head c who n holds only
in_hand {c = c} {who = who} (peeking x n name after more holds got pass behind) only = read_and_head c who n holds only
in_hand {c = c} {who = who} (passing x n name after more further holds got pass behind room) only = read_and_head c who n holds only
in_hand {c = c} {who = who} (entering x n name more further holds got enters room) only = read_and_head c who n holds only
in_hand {c = c} {who = who} (awaiting x n name more holds got) only = only_read c who n holds only
in_hand {c = c} {who = who} (reading x n name more holds got wrote inner) only = only_read c who n holds only
in_hand {c = c} {who = who} (beginning x n name more holds got wrote last) only = only_read c who n holds only
in_hand {c = c} {who = who} (walking x b name slot holds is named) only = with_walk c who b holds only
in_hand {c = c} {who = who} (destroying x b name slot holds is named) only = with_walk c who b holds only
in_hand {c = c} {who = who} (count_tail g count none) only = with_nothing c who None none only
in_hand {c = c} {who = who} (count_head g w count none small low) only = with_nothing c who None none only
in_hand {c = c} {who = who} (count_again g w h count none small seen) only = with_nothing c who None none only
in_hand {c = c} {who = who} (empty_head none) only = with_nothing c who None none only
in_hand {c = c} {who = who} (empty_tail h none small saw) only = with_nothing c who None none only
in_hand {c = c} {who = who} (closing none) only = with_nothing c who None none only
in_hand {c = c} {who = who} (closed_tail none) only = with_nothing c who None none only

-- what a party has in its hand, in a call or not
abbrev pub HandOf : {A : Type 0} → Chain A → ℕ → Bool → Type 0
HandOf c who true = (h : Hand) × InHand c who h
HandOf c who false = InHand c who Empty

-- what a party has in its hand, told by such a proof
abbrev pub hand_of : {A : Type 0} (c : Chain A) (who : ℕ) (in_call : Bool) → HandOf c who in_call → Hand
hand_of c who true h = h.0
hand_of c who false h = Empty

pub hand_is : {A : Type 0} (c : Chain A) (who : ℕ) (in_call : Bool) (h : HandOf c who in_call) → InHand c who (hand_of c who in_call h)
hand_is c who true h = h.1
hand_is c who false h = h

pub full_hand : {A : Type 0} (c : Chain A) (who : ℕ) (in_call : Bool) (h : HandOf c who in_call) → hand_of c who in_call h ≢ Empty → in_call ≡ true
full_hand c who true h ne = refl
full_hand c who false h ne = absurd (ne refl)
