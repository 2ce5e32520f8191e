-- At least the blocks that the items of a chain span are alive.
use Rattle.std.proofs.Common.{ℕ, ◌+◌, ◌-◌, ◌/◌, ◌<◌, ◌≤◌, ◌≡◌, ◌≢◌, not, ◌∙◌, inl, inr, Bool, true, false, List, length, refl, ap, arith}
use Rattle.queue_laws.specs.{Common.Vocabulary.BLOCK_SLOTS, Common.Puts.put, Chain.ChainAnswers.tail_word, Chain.ChainAnswers.head_word}
use Rattle.queue_steps.specs.{Sequential.blocks_of, Words.position_of, ChainWords.items_before}
use Rattle.queue_laws.proofs.{Common.Puts.put_ok, Chain.ChainAnswers.tail_items, Chain.ChainAnswers.head_items, Chain.ChainHands.HandOf, Chain.ChainHands.hand_is, Chain.ChainCount.is_given_up, Chain.ChainCount.is_alive, Chain.ChainCount.alive, Chain.Count.count, Chain.Count.count_all}
use Rattle.queue_laws.proofs.Chain.Count.{count_into}
use Rattle.queue_laws.specs.Chain.ChainCells.{Writer, Wrote, Reader, Unread, Reading, Done, Mover, Rests, Laying, Opening, Walk, GivenUp, Use, Spare, Chained, Chain, queue_of, ItemOk, BlocksOk, WalkOk, item_at, LAST, ChainOk}

-- the place of a block among the chain's: a spare is the next one
abbrev place_of : ℕ → Use → ℕ
place_of next (Chained b) = b
place_of next _ = next

pub not_done : {A : Type 0} (head tail : ℕ) (items : List A) (n : ℕ) (w : Writer A) (r : Reader) → ItemOk head tail items n w r → head ≤ n → r ≢ Done
not_done head tail items n (Wrote v) Done ok le e = omega arith
not_done head tail items n w Unread ok le e = cc
not_done head tail items n w (Reading p) ok le e = cc
not_done head tail items n w Done ok le e = ok

-- a block from the head's on is not given up
not_given_up : {A : Type 0} (c : Chain A) (b : ℕ) (w : Walk) → ChainOk c → c.head / BLOCK_SLOTS ≤ b → WalkOk c.readers b w → is_given_up w ≡ false
not_given_up c b GivenUp ok le walk = absurd (not_done c.head c.tail c.items (item_at b LAST) (c.writers (item_at b LAST)) (c.readers (item_at b LAST)) (ok.item (item_at b LAST)) (omega arith) walk.0)
not_given_up c b w ok le walk = refl

-- it is alive, and its use says its place
stands : {A : Type 0} (c : Chain A) (b next : ℕ) → ChainOk c → c.head / BLOCK_SLOTS ≤ b → b < c.blocks → (alive c (c.names b) ≡ true) × (place_of next (c.uses (c.names b)) ≡ b)
stands c b next ok le lt = (ap (is_alive c.walks) (ok.name b lt) ∙ ap not (not_given_up c b (c.walks b) ok le (ok.walk b)), ap (place_of next) (ok.name b lt))

-- where these blocks are alive, there are so many
spans_by : {A : Type 0} (c : Chain A) (names end : ℕ) (name : ℕ → ℕ) → ((b : ℕ) → c.head / BLOCK_SLOTS ≤ b → b < end → (alive c (name b) ≡ true) × (place_of c.blocks (c.uses (name b)) ≡ b))
    → ((f : ℕ) → alive c f ≡ true → f < names) → end - c.head / BLOCK_SLOTS ≤ count (alive c) names
spans_by {A} c names end name here within =
    let many = count_into (λ j. true) (alive c) (end - c.head / BLOCK_SLOTS) names (λ j. name (j + c.head / BLOCK_SLOTS)) (λ f. place_of c.blocks (c.uses f) - c.head / BLOCK_SLOTS)
    (λ j lt is. let h = here (j + c.head / BLOCK_SLOTS) (omega arith) (omega arith) in (within (name (j + c.head / BLOCK_SLOTS)) h.0, h.0, (let at = h.1 in omega (arith, at)))) in
    let all = count_all (end - c.head / BLOCK_SLOTS) in
    omega (arith, many, all)

-- at least the blocks that the items span are alive
spans_alive : {A : Type 0} (c : Chain A) (names : ℕ) → ChainOk c → 0 < c.tail → ((who : ℕ) → c.mover ≡ Laying who → (f : ℕ) × (c.uses f ≡ Spare who)) → ((f : ℕ) → alive c f ≡ true → f < names)
    → blocks_of (queue_of c) ≤ count (alive c) names
spans_alive {A} c names ok some lays within = go c.mover refl ok.laid
  where
    blocks : c.head / BLOCK_SLOTS ≤ c.blocks → c.blocks - c.head / BLOCK_SLOTS ≤ count (alive c) names
    blocks le = spans_by c names c.blocks c.names (λ b low lt. stands c b c.blocks ok low lt) within

    with_spare : (who f : ℕ) → c.uses f ≡ Spare who → c.blocks + 1 - c.head / BLOCK_SLOTS ≤ count (alive c) names
    with_spare who f spare = spans_by c names (c.blocks + 1) (put c.names c.blocks f)
        (λ b low lt. put_ok c.names c.blocks b f (λ j x. j ≡ b → (alive c x ≡ true) × (place_of c.blocks (c.uses x) ≡ j)) (λ e. (ap (is_alive c.walks) spare, ap (place_of c.blocks) spare)) (λ ne e. stands c b c.blocks ok low (omega arith)) refl)
        within

    go : (m : Mover) → c.mover ≡ m → BlocksOk c.tail c.blocks m → c.tail / BLOCK_SLOTS - (c.tail - length c.items) / BLOCK_SLOTS + 1 ≤ count (alive c) names
    go Rests e (inl h) = absurd (let none = h.0 in omega arith)
    go Rests e (inr h) = let count_is = ok.count in let many = blocks (omega arith) in omega (arith, many, count_is, h)
    go (Laying who) e h =
        let spare = lays who e in
        let count_is = ok.count in
        let full = h.1 in
        let many = with_spare who spare.0 spare.1 in
        omega (arith, many, count_is, full)
    go (Opening who) e h = let count_is = ok.count in let full = h.1 in let many = blocks (omega arith) in omega (arith, many, count_is, full)

-- where each party has in its hand what keeps blocks alive
pub spans_if : {A : Type 0} (c : Chain A) (names : ℕ) (in_call : ℕ → Bool) → ChainOk c → ((p : ℕ) → HandOf c p (in_call p)) → ((f : ℕ) → alive c f ≡ true → f < names) → 0 < c.tail → blocks_of (queue_of c) ≤ count (alive c) names
spans_if c names in_call ok each within some = spans_alive c names ok some (λ who e. (hand_is c who (in_call who) (each who)).lays e) within

-- the words of the tail and the head tell how many items there are
pub held_items : {A : Type 0} (c : Chain A) → ChainOk c → items_before (position_of (tail_word c)) - items_before (position_of (head_word c)) ≡ length c.items
held_items c ok = let tail = tail_items c ok in let head = head_items c ok in let count_is = ok.count in omega (arith, tail, head, count_is)
