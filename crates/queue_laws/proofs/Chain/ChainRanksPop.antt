-- The steps of a pop up to the read of its item have fewer steps before them, one after another, while nobody hinders it.
use Rattle.std.proofs.Common.{ℕ, ◌+◌, ◌/◌, ◌%◌, ◌<◌, ◌≡◌, ◌≢◌, ◌==◌, ◌∙◌, ◌⊎◌, inl, inr, Bool, true, false, if◌then◌else◌, Option, Some, None, refl, sym, ap, subst, arith, bit_and}
use Rattle.std.proofs.lemmas.Bool.{ne_eqb, eq-eqb, Decides.eqb_tells}
use Rattle.queue_laws.specs.{Common.Vocabulary.Local, Common.Vocabulary.BLOCK_SLOTS, Common.Vocabulary.TAIL_STEP, Common.Vocabulary.WRITE, Chain.ChainAt.Only, Chain.ChainFacts.place, Chain.ChainFacts.head_of, Chain.ChainFacts.HeadIs, Chain.ChainFacts.IsMore, Chain.ChainAfter.taken_if}
use Rattle.queue_laws.specs.Chain.ChainAnswers.{tail_word, head_word, shown_of, linked_of, is_wrote}
use Rattle.queue_steps.specs.{Words.position_of, ChainWords.block_at, ChainWords.offset_at, ChainWords.offset_of, declared.steps.chain.ChainLocal.ChainLocal as chain}
use Rattle.queue_steps.specs.ChainNext.{chain_head_found, head_block_found, chain_pop_tail_found, takes, followed, written_found, is_last_slot}
use Rattle.queue_steps.specs.ChainNext as steps
use Rattle.queue_laws.proofs.{Common.Tails.position_tail, Chain.ChainPlaces.place_offset, Chain.ChainAnswers.standing_word, Chain.ChainRanksPush.first_place, Chain.ChainRanksPush.nothing_yet}
use Rattle.queue_laws.proofs.Chain.ChainRanks.{lag, lag_none, is_seen, rank, Falls, IsBare, unheld, stands_if}
use Rattle.queue_laws.specs.Chain.ChainCells.{Writer, Free, Writing, Wrote, Reading, Rests, Stands, Passing, LinkState, Unlinked, Linking, Linked, Shown, Hidden, Showing, Seen, Chain, ItemOk, BlocksOk, LinkOk, FrontOk, ShownOk, ChainOk, Part, Head, First, linker_of, shower_of, writer_of, HoldsOnly}

-- nobody moves the head
pub stands : {A : Type 0} (c : Chain A) (who : ℕ) (P : Part → Type 0) → IsBare c who → HoldsOnly c who P → (P Head → ⊥) → c.passer ≡ Stands
stands c who P bare holds none = stands_if c.passer (unheld c who P (Only First) Head bare holds none (λ z. absurd (cc)))

-- a head that stands has a slot
standing_slot : {A : Type 0} (c : Chain A) → c.passer ≡ Stands → offset_of (head_word c) ≢ BLOCK_SLOTS
standing_slot c stood e =
    let at : position_of (head_word c) ≡ place c.head = ap position_of (standing_word c stood) ∙ position_tail (place c.head) c.known in
    let z : c.head % BLOCK_SLOTS ≡ BLOCK_SLOTS = sym (place_offset c.head) ∙ (ap offset_at (sym at) ∙ e) in
    absurd (omega (arith, z))

-- V1: the head is read, or found in place of the one that was read
pub head_falls : {A : Type 0} (c : Chain A) → c.passer ≡ Stands → Falls c (chain_head_found (head_word c)) (BLOCK_SLOTS + 8)
head_falls c stood = rw (ne_eqb (offset_of (head_word c)) BLOCK_SLOTS (standing_slot c stood)) (lag_none (head_word c) (BLOCK_SLOTS + 7) 3 (BLOCK_SLOTS + 8) (omega arith))

-- V2: the poppers' block is read. Where none is shown, nothing was accepted yet
pub pop_block_falls : {A : Type 0} (c : Chain A) (n : ℕ) (more : Bool) → IsMore c n more → (is_seen c.shown ≡ false → position_of (tail_word c) ≡ 0)
    → Falls c (head_block_found (head_of n more) (shown_of c.shown (c.names c.front))) (BLOCK_SLOTS + 7 + lag (head_word c) (head_of n more) 3)
pop_block_falls {A} c n true room first =
    subst (λ s. Falls c (head_block_found (head_of n true) (shown_of s (c.names c.front))) (BLOCK_SLOTS + 7 + lag (head_word c) (head_of n true) 3)) (sym (room refl).0)
    (rw (eq-eqb (head_of n true % 2) 1 (omega arith)) (omega arith))
pop_block_falls {A} c n false room first = go c.shown refl
  where
    go : (s : Shown) → c.shown ≡ s → Falls c (head_block_found (head_of n false) (shown_of s (c.names c.front))) (BLOCK_SLOTS + 7 + lag (head_word c) (head_of n false) 3)
    go Seen e = rw (ne_eqb (head_of n false % 2) 1 (λ z. absurd (omega arith))) (omega arith)
    go s e = rw (ne_eqb (head_of n false % 2) 1 (λ z. absurd (omega arith)), eq-eqb (position_of (tail_word c)) 0 (first (ap is_seen e))) (omega arith)

-- where nobody is to show the first block and it is not shown, nothing was accepted yet
pub unshown_place : {A : Type 0} (c : Chain A) → ChainOk c → ((p : ℕ) → shower_of c.shown ≢ Some p) → is_seen c.shown ≡ false → position_of (tail_word c) ≡ 0
unshown_place {A} c ok free unseen = go c.shown refl ok.seen
  where
    go : (s : Shown) → c.shown ≡ s → ShownOk c.blocks c.head c.front c.known c.passer s → position_of (tail_word c) ≡ 0
    go Seen e h = let z : true ≡ false = sym (ap is_seen e) ∙ unseen in cc
    go (Showing p) e h = absurd (free p (ap shower_of e))
    go Hidden e h = first_place c ok h.0

-- where nothing was accepted yet, the words' positions are one
same_place : {A : Type 0} (c : Chain A) (n : ℕ) → ChainOk c → HeadIs c n → position_of (tail_word c) ≡ 0 → position_of (tail_word c) ≡ position_of (head_of n false)
same_place {A} c n ok is first = first ∙ sym (position_tail (place n) false ∙ ap place at)
  where
    empty : c.head ≡ 0
    empty = let none = nothing_yet c ok first in let count = ok.count in omega arith

    at : n ≡ 0
    at = elim is [ inl lt ↦ absurd (let z = empty in omega (arith, lt, z)) | inr h ↦ sym h.0 ∙ empty ]

-- V3: the tail is read after that head
pub pop_tail_falls : {A : Type 0} (c : Chain A) (n : ℕ) (block : Option ℕ) → ChainOk c → HeadIs c n
    → Falls c (chain_pop_tail_found (head_of n false) block (tail_word c)) (rank c (Local.Chain (chain.PopTail (head_of n false) block)))
pop_tail_falls {A} c n block ok is = go block (eqb_tells (position_of (tail_word c)) (position_of (head_of n false)))
  where
    go : (block : Option ℕ)
        → (((position_of (tail_word c) == position_of (head_of n false)) ≡ true) × (position_of (tail_word c) ≡ position_of (head_of n false)))
        ⊎ (((position_of (tail_word c) == position_of (head_of n false)) ≡ false) × (position_of (tail_word c) ≢ position_of (head_of n false)))
        → Falls c (chain_pop_tail_found (head_of n false) block (tail_word c)) (rank c (Local.Chain (chain.PopTail (head_of n false) block)))
    go b (inl e) = rw e.0 tt
    go None (inr e) = rw (e.0, ne_eqb (position_of (tail_word c)) 0 (λ z. e.1 (same_place c n ok is z))) (omega arith)
    go (Some name) (inr e) =
        rw e.0 (elim (block_at (position_of (tail_word c)) == block_at (position_of (head_of n false)))
        as (λ b. Falls c (if b then takes (head_of n false) name (head_of n false + TAIL_STEP) else takes (head_of n false) name (head_of n false + TAIL_STEP + 1)) (BLOCK_SLOTS + 6 + lag (head_word c) (head_of n false) 3))
        [ true ↦ omega arith | false ↦ omega arith ])

-- V4: the head is exchanged, and was as it was read
got_falls : {A : Type 0} (s : Chain A) (head name : ℕ) → Falls s (steps.taken head name) (BLOCK_SLOTS + 5)
got_falls s head name = elim (is_last_slot head) as (λ b. Falls s (if b then steps.follows head name else steps.awaits head name) (BLOCK_SLOTS + 5)) [ true ↦ omega arith | false ↦ omega arith ]

-- V4: the head is exchanged, by which the front is taken
pub taking_falls : {A : Type 0} (c : Chain A) (who head name : ℕ) (new : Bool) → c.passer ≡ Stands
    → Falls (taken_if c who new (head_word c == head) (is_last_slot head)) (if head_word c == head then steps.taken head name else chain_head_found (head_word c)) (BLOCK_SLOTS + 5 + lag (head_word c) head 3)
taking_falls c who head name new stood =
    elim (head_word c == head) as (λ b. Falls (taken_if c who new b (is_last_slot head)) (if b then steps.taken head name else chain_head_found (head_word c)) (BLOCK_SLOTS + 5 + (if b then 0 else 3))) [
      | true ↦ got_falls (taken_if c who new true (is_last_slot head)) head name
      | false ↦ head_falls c stood
    ]

-- where nobody moves the tail or is to link a block, a block that is passed is linked
pub linked_then : {A : Type 0} (c : Chain A) (who n : ℕ) → ChainOk c → c.mover ≡ Rests → ((p : ℕ) → linker_of (c.links (n / BLOCK_SLOTS)) ≢ Some p) → (c.passer ≡ Passing who) × (c.head ≡ n + 1) → c.links (n / BLOCK_SLOTS) ≡ Linked
linked_then {A} c who n ok rest free pass = go (c.links (n / BLOCK_SLOTS)) refl (ok.link (n / BLOCK_SLOTS))
  where
    front : FrontOk c.head c.front (Passing who)
    front = subst (λ p. FrontOk c.head c.front p) pass.0 ok.fronted

    more : BlocksOk c.tail c.blocks Rests → n / BLOCK_SLOTS + 1 < c.blocks
    more (inl none) = absurd (let f = front in let count = ok.count in let z = none.0 in omega arith)
    more (inr is) = let f = front in let at = pass.1 in let count = ok.count in omega arith

    go : (l : LinkState) → c.links (n / BLOCK_SLOTS) ≡ l → LinkOk c.blocks (n / BLOCK_SLOTS) l → c.links (n / BLOCK_SLOTS) ≡ Linked
    go Linked e h = e
    go (Linking p) e h = absurd (free p (ap linker_of e))
    go Unlinked e h = absurd (let lt = more (subst (λ m. BlocksOk c.tail c.blocks m) rest ok.laid) in omega arith)

-- V5: the link to the next block is read, which may be unset yet
pub following_falls : {A : Type 0} (c : Chain A) (who n head name : ℕ) → ChainOk c → c.mover ≡ Rests → ((p : ℕ) → linker_of (c.links (n / BLOCK_SLOTS)) ≢ Some p) → (c.passer ≡ Passing who) × (c.head ≡ n + 1)
    → Falls c (followed head name (linked_of (c.links (n / BLOCK_SLOTS)) (c.names (n / BLOCK_SLOTS + 1)))) (BLOCK_SLOTS + 4)
following_falls c who n head name ok rest free pass =
    subst (λ l. Falls c (followed head name (linked_of l (c.names (n / BLOCK_SLOTS + 1)))) (BLOCK_SLOTS + 4)) (sym (linked_then c who n ok rest free pass)) (omega arith)

-- where nobody is to write the item that a pop claimed, it is written
pub wrote_then : {A : Type 0} (c : Chain A) (who n : ℕ) → ChainOk c → ((p : ℕ) → writer_of (c.writers n) ≢ Some p) → c.readers n ≡ Reading who → is_wrote (c.writers n) ≡ true
wrote_then {A} c who n ok free reading = go (c.writers n) refl (subst (λ r. ItemOk c.head c.tail c.items n (c.writers n) r) reading (ok.item n))
  where
    go : (w : Writer A) → c.writers n ≡ w → ItemOk c.head c.tail c.items n w (Reading who) → is_wrote (c.writers n) ≡ true
    go (Wrote v) e h = ap is_wrote e
    go (Writing p v) e h = absurd (free p (ap writer_of e))
    go Free e h = absurd h

-- V9: the slot's state is read, until its item is written
pub awaiting_falls : {A : Type 0} (c : Chain A) (head name st : ℕ) → (bit_and st WRITE == 0) ≡ false → Falls c (written_found head name st) BLOCK_SLOTS
awaiting_falls {A} c head name st written = (last (eqb_tells (offset_of head + 1) BLOCK_SLOTS))
  where
    last : (((offset_of head + 1 == BLOCK_SLOTS) ≡ true) × (offset_of head + 1 ≡ BLOCK_SLOTS)) ⊎ (((offset_of head + 1 == BLOCK_SLOTS) ≡ false) × (offset_of head + 1 ≢ BLOCK_SLOTS)) → Falls c (written_found head name st) BLOCK_SLOTS
    last (inl e) = rw (written, e.0) (omega arith)
    last (inr e) = rw (written, e.0) (omega arith)
