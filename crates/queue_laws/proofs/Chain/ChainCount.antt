-- How many blocks of a chain are alive: at most two more than its items fill, and one for each call; at least those that its items span.
use Rattle.std.proofs.Common.{ℕ, ◌+◌, ◌-◌, ◌/◌, ◌<◌, ◌≤◌, ◌≡◌, ◌≢◌, ◌&&◌, not, nat_lt, ◌∙◌, ◌⊎◌, inl, inr, Bool, true, false, List, length, refl, sym, ap, arith}
use Rattle.std.proofs.lemmas.Bool.{ltb-true, ltb-false}
use Rattle.queue_laws.specs.Common.Vocabulary.{BLOCK_SLOTS}
use Rattle.queue_laws.proofs.{Common.Tests.and_true, Common.Tests.not_true, Chain.Count.count, Chain.Count.count_all, Chain.Count.count_into, Chain.Count.count_split}
use Rattle.queue_laws.specs.Chain.ChainCells.{Writer, Free, Reader, Unread, Reading, Done, Mover, Rests, Walk, Before, Walker, Waits, GivenUp, Use, Spare, Chained, Chain, ItemOk, BlocksOk, WalkOk, item_at, LAST, ChainOk}
use Rattle.queue_laws.proofs.Chain.ChainHands.{Hand, Empty, OfSpare, OfBlock, InHand, HandOf, hand_of, hand_is, full_hand}

-- whether the walk over a block has given it up
abbrev pub is_given_up : Walk → Bool
is_given_up GivenUp = true
is_given_up _ = false

-- whether a block of this use is alive
abbrev pub is_alive : (ℕ → Walk) → Use → Bool
is_alive walks (Spare who) = true
is_alive walks (Chained b) = not (is_given_up (walks b))
is_alive walks x = false

-- whether the block of this name is alive
abbrev pub alive : {A : Type 0} → Chain A → ℕ → Bool
alive c f = is_alive c.walks (c.uses f)

-- whether it is that of the head, or behind it
abbrev is_ahead : ℕ → Use → Bool
is_ahead h (Chained b) = not (nat_lt b h)
is_ahead h _ = false

-- whether it is alive for a party's sake
abbrev is_held : ℕ → (ℕ → Walk) → Use → Bool
is_held h walks u = is_alive walks u && not (is_ahead h u)

either : (p q : Bool) → p ≡ true → (q ≡ true) ⊎ ((p && not q) ≡ true)
either true true e = inl refl
either true false e = inr refl
either false q e = cc

not_not : (p : Bool) → not (not p) ≡ true → p ≡ true
not_not true e = refl
not_not false e = cc

-- the number of the chain's block
abbrev pub number_of : Use → ℕ
number_of (Chained b) = b
number_of _ = 0

-- the blocks from the head's on are the last of the chain
ahead_few : {A : Type 0} (c : Chain A) (names : ℕ) → ChainOk c → count (λ f. is_ahead (c.head / BLOCK_SLOTS) (c.uses f)) names ≤ c.blocks - c.head / BLOCK_SLOTS
ahead_few {A} c names ok =
    let few = count_into (λ f. is_ahead (c.head / BLOCK_SLOTS) (c.uses f)) (λ j. true) names (c.blocks - c.head / BLOCK_SLOTS) (λ f. number_of (c.uses f) - c.head / BLOCK_SLOTS) (λ j. c.names (j + c.head / BLOCK_SLOTS))
    (λ f lt is. go f (c.uses f) refl is) in
    let all = count_all (c.blocks - c.head / BLOCK_SLOTS) in
    omega (arith, few, all)
  where
    go : (f : ℕ) (u : Use) → c.uses f ≡ u → is_ahead (c.head / BLOCK_SLOTS) u ≡ true
        → (number_of u - c.head / BLOCK_SLOTS < c.blocks - c.head / BLOCK_SLOTS) × (true ≡ true) × (c.names (number_of u - c.head / BLOCK_SLOTS + c.head / BLOCK_SLOTS) ≡ f)
    go f (Chained b) e is =
        let low = ltb-false b (c.head / BLOCK_SLOTS) (not_true (nat_lt b (c.head / BLOCK_SLOTS)) is) in
        let h = ok.named f b e in
        let within = h.0 in
        let back : b - c.head / BLOCK_SLOTS + c.head / BLOCK_SLOTS ≡ b = omega (arith, low) in
        (omega (arith, low, within), refl, ap c.names back ∙ h.1)
    go f u e is = cc

-- who reads the item
abbrev reader_is : Reader → ℕ
reader_is (Reading p) = p
reader_is _ = 0

-- for whose sake a passed block, or a spare, is alive
abbrev walk_holder : (ℕ → Reader) → ℕ → Walk → ℕ
walk_holder readers b Before = reader_is (readers (item_at b LAST))
walk_holder readers b (Walker who slot) = who
walk_holder readers b (Waits slot) = reader_is (readers (item_at b slot))
walk_holder readers b GivenUp = 0

-- for whose sake a block of this use is alive
abbrev holder : {A : Type 0} → Chain A → Use → ℕ
holder c (Spare who) = who
holder c (Chained b) = walk_holder c.readers b (c.walks b)
holder c _ = 0

-- the name of the block in a hand
abbrev name_in : {A : Type 0} → Chain A → Hand → ℕ
name_in c Empty = 0
name_in c (OfSpare f) = f
name_in c (OfBlock b) = c.names b

-- an item that left and is not read yet is just now read
being_read : {A : Type 0} (head tail : ℕ) (items : List A) (n : ℕ) (w : Writer A) (r : Reader) → head ≤ tail → ItemOk head tail items n w r → n < head → r ≢ Done → (p : ℕ) × (r ≡ Reading p)
being_read head tail items n Free Unread low ok lt ne = absurd (omega arith)
being_read head tail items n Free (Reading p) low ok lt ne = absurd ok
being_read head tail items n w Done low ok lt ne = absurd (ne refl)
being_read head tail items n w (Reading p) low ok lt ne = (p, refl)
being_read head tail items n w Unread low ok lt ne = absurd (let at = ok.0 in omega arith)

reading_hand : {A : Type 0} (c : Chain A) (hands : ℕ → Hand) (n : ℕ) → ChainOk c → ((p : ℕ) → InHand c p (hands p)) → n < c.head → c.readers n ≢ Done → hands (reader_is (c.readers n)) ≡ OfBlock (n / BLOCK_SLOTS)
reading_hand c hands n ok all lt ne =
    let h = being_read c.head c.tail c.items n (c.writers n) (c.readers n) (let e = ok.count in omega arith) (ok.item n) lt ne in
    ap (λ r. hands (reader_is r)) h.1 ∙ (all h.0).reads n h.1

-- a passed block is in the hand of who keeps it alive
walk_hand : {A : Type 0} (c : Chain A) (hands : ℕ → Hand) (b : ℕ) (w : Walk) → ChainOk c → ((p : ℕ) → InHand c p (hands p)) → b < c.head / BLOCK_SLOTS → c.walks b ≡ w → WalkOk c.readers b w → is_given_up w ≡ false
    → hands (walk_holder c.readers b w) ≡ OfBlock b
walk_hand c hands b Before ok all lt e walk alive_is = reading_hand c hands (item_at b LAST) ok all (omega arith) walk ∙ ap OfBlock (let z : item_at b LAST / BLOCK_SLOTS ≡ b = omega arith in z)
walk_hand c hands b (Walker who slot) ok all lt e walk alive_is = (all who).walks b slot e
walk_hand c hands b (Waits slot) ok all lt e walk alive_is =
    let small = walk.0 in reading_hand c hands (item_at b slot) ok all (omega arith) walk.2 ∙ ap OfBlock (let z : item_at b slot / BLOCK_SLOTS ≡ b = omega arith in z)
walk_hand c hands b GivenUp ok all lt e walk alive_is = cc

-- so there is no more than one such block for each call
held_hand : {A : Type 0} (c : Chain A) (hands : ℕ → Hand) (f : ℕ) (u : Use) → ChainOk c → ((p : ℕ) → InHand c p (hands p)) → c.uses f ≡ u → is_held (c.head / BLOCK_SLOTS) c.walks u ≡ true
    → (hands (holder c u) ≢ Empty) × (name_in c (hands (holder c u)) ≡ f)
held_hand c hands f (Spare who) ok all e is = let h = (all who).spares f e in (λ z. let y : OfSpare f ≡ Empty = sym h ∙ z in cc, ap (name_in c) h)
held_hand c hands f (Chained b) ok all e is =
    let tests = and_true (not (is_given_up (c.walks b))) (not (not (nat_lt b (c.head / BLOCK_SLOTS)))) is in
    let lt = ltb-true b (c.head / BLOCK_SLOTS) (not_not (nat_lt b (c.head / BLOCK_SLOTS)) tests.1) in
    let h = walk_hand c hands b (c.walks b) ok all lt refl (ok.walk b) (not_true (is_given_up (c.walks b)) tests.0) in
    (λ z. let y : OfBlock b ≡ Empty = sym h ∙ z in cc, ap (name_in c) h ∙ (ok.named f b e).1)
held_hand c hands f u ok all e is = cc

held_few : {A : Type 0} (c : Chain A) (names parties : ℕ) (in_call : ℕ → Bool) → ChainOk c → ((p : ℕ) → HandOf c p (in_call p)) → ((p : ℕ) → in_call p ≡ true → p < parties)
    → count (λ f. is_held (c.head / BLOCK_SLOTS) c.walks (c.uses f)) names ≤ count in_call parties
held_few {A} c names parties in_call ok each within =
    count_into (λ f. is_held (c.head / BLOCK_SLOTS) c.walks (c.uses f)) in_call names parties (λ f. holder c (c.uses f)) (λ p. name_in c (hands p))
    (λ f lt is. let h = held_hand c hands f (c.uses f) ok (λ p. hand_is c p (in_call p) (each p)) refl is in
    let busy = full_hand c (holder c (c.uses f)) (in_call (holder c (c.uses f))) (each (holder c (c.uses f))) h.0 in
    (within (holder c (c.uses f)) busy, busy, h.1))
  where
    hands : ℕ → Hand
    hands p = hand_of c p (in_call p) (each p)

blocks_few : (tail blocks head len : ℕ) (m : Mover) → BlocksOk tail blocks m → head + len ≡ tail → blocks - head / BLOCK_SLOTS ≤ len / BLOCK_SLOTS + 2
blocks_few tail blocks head len Rests (inl h) e = let none = h.1 in omega arith
blocks_few tail blocks head len Rests (inr h) e = omega arith
blocks_few tail blocks head len m h e = let full = h.1 in omega arith

-- the blocks that are alive are at most two more than the items fill, and one for each call in progress
pub few_alive : {A : Type 0} (c : Chain A) (names parties : ℕ) (in_call : ℕ → Bool) → ChainOk c → ((p : ℕ) → HandOf c p (in_call p)) → ((p : ℕ) → in_call p ≡ true → p < parties)
    → count (alive c) names ≤ length c.items / BLOCK_SLOTS + 2 + count in_call parties
few_alive c names parties in_call ok each within =
    let split = count_split (alive c) (λ f. is_ahead (c.head / BLOCK_SLOTS) (c.uses f)) (λ f. is_held (c.head / BLOCK_SLOTS) c.walks (c.uses f)) names (λ f is. either (alive c f) (is_ahead (c.head / BLOCK_SLOTS) (c.uses f)) is) in
    let ahead = ahead_few c names ok in
    let held = held_few c names parties in_call ok each within in
    let few = blocks_few c.tail c.blocks c.head (length c.items) c.mover ok.laid ok.count in
    omega (arith, split, ahead, held, few)
