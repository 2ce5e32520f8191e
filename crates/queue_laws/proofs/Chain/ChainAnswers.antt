-- What reading the words of a chain tells.
use Rattle.std.proofs.Common.{ℕ, ◌*◌, ◌%◌, ◌≤◌, ◌≡◌, ◌≢◌, ◌∙◌, inl, inr, Bool, true, false, refl, sym, ap, arith}
use Rattle.queue_laws.specs.{Common.Vocabulary.LIMIT, Common.Vocabulary.BLOCK_SLOTS, Chain.ChainFacts.place, Chain.ChainFacts.head_of, Chain.ChainFacts.open_tail_of, Chain.ChainFacts.HeadIs, Chain.ChainFacts.TailIs, Chain.ChainAnswers.tail_place, Chain.ChainAnswers.head_place}
use Rattle.queue_laws.specs.Chain.ChainAnswers.{tail_word, head_word, is_done}
use Rattle.queue_steps.specs.{Words.IsWord, Words.position_of, Words.is_shut, Words.tail_of, ChainWords.offset_at, ChainWords.offset_of, ChainWords.items_before}
use Rattle.queue_laws.proofs.{Common.Tails.position_tail, Common.Tails.shut_tail, Chain.ChainPlaces.place_offset}
use Rattle.queue_laws.specs.Chain.ChainCells.{Reader, Done, Mover, Rests, Passer, Stands, Passing, Entering, Chain, BlocksOk, FrontOk, ChainOk}

pub done_is : (r : Reader) → is_done r ≡ true → r ≡ Done
done_is Done e = refl
done_is r e = cc

pub head_offset : (n : ℕ) (more : Bool) → offset_of (head_of n more) ≡ n % BLOCK_SLOTS
head_offset n more = ap offset_at (position_tail (place n) more) ∙ place_offset n

pub word_small : (q : ℕ) (c : Bool) → IsWord (tail_of q true) → IsWord (tail_of q c)
word_small q true lt = omega arith
word_small q false lt = omega arith

-- a tail that is moved on has filled its blocks
tail_place_items : (n blocks : ℕ) (m : Mover) → BlocksOk n blocks m → items_before (tail_place n m) ≡ n
tail_place_items n blocks Rests h = omega arith
tail_place_items n blocks m h = let some = h.0 in let full = h.1 in omega arith

head_place_items : (n front : ℕ) (p : Passer) → FrontOk n front p → items_before (head_place n p) ≡ n
head_place_items n front (Entering who) h = let at = h.0 in let some = h.1 in omega arith
head_place_items n front p h = omega arith

-- the items before the words
pub tail_items : {A : Type 0} (c : Chain A) → ChainOk c → items_before (position_of (tail_word c)) ≡ c.tail
tail_items c ok = rw (position_tail (tail_place c.tail c.mover) c.closed) (tail_place_items c.tail c.blocks c.mover ok.laid)

pub head_items : {A : Type 0} (c : Chain A) → ChainOk c → items_before (position_of (head_word c)) ≡ c.head
head_items c ok = rw (position_tail (head_place c.head c.passer) c.known) (head_place_items c.head c.front c.passer ok.fronted)

tail_place_small : (n : ℕ) (m : Mover) → n ≤ LIMIT → IsWord (tail_of (tail_place n m) true)
tail_place_small n Rests low = omega arith
tail_place_small n m low = omega arith

head_place_small : (n : ℕ) (p : Passer) → n ≤ LIMIT → IsWord (tail_of (head_place n p) true)
head_place_small n Stands low = omega arith
head_place_small n p low = omega arith

-- every word leaves room
pub tail_small : {A : Type 0} (c : Chain A) → ChainOk c → IsWord (tail_word c)
tail_small c ok = word_small (tail_place c.tail c.mover) c.closed (tail_place_small c.tail c.mover ok.most)

pub head_small : {A : Type 0} (c : Chain A) → ChainOk c → IsWord (head_word c)
head_small c ok = word_small (head_place c.head c.passer) c.known (head_place_small c.head c.passer (let e = ok.count in let m = ok.most in omega arith))

-- at no block's end the tail rests, and the head stands
tail_rests : (n blocks : ℕ) (m : Mover) → BlocksOk n blocks m → offset_at (tail_place n m) ≢ BLOCK_SLOTS → m ≡ Rests
tail_rests n blocks Rests h ne = refl
tail_rests n blocks m h ne = absurd (ne (let some = h.0 in let full = h.1 in omega arith))

head_stands : (n front : ℕ) (p : Passer) → FrontOk n front p → offset_at (head_place n p) ≢ BLOCK_SLOTS → p ≡ Stands
head_stands n front Stands h ne = refl
head_stands n front (Passing who) h ne = absurd (ne (omega arith))
head_stands n front (Entering who) h ne = absurd (ne (let at = h.0 in let some = h.1 in omega arith))

pub tail_is_resting : {A : Type 0} (c : Chain A) → ChainOk c → offset_of (tail_word c) ≢ BLOCK_SLOTS → c.mover ≡ Rests
tail_is_resting c ok ne = tail_rests c.tail c.blocks c.mover ok.laid (λ e. ne (ap offset_at (position_tail (tail_place c.tail c.mover) c.closed) ∙ e))

pub head_is_standing : {A : Type 0} (c : Chain A) → ChainOk c → offset_of (head_word c) ≢ BLOCK_SLOTS → c.passer ≡ Stands
head_is_standing c ok ne = head_stands c.head c.front c.passer ok.fronted (λ e. ne (ap offset_at (position_tail (head_place c.head c.passer) c.known) ∙ e))

-- the words at rest
pub resting_word : {A : Type 0} (c : Chain A) → c.mover ≡ Rests → tail_word c ≡ tail_of (place c.tail) c.closed
resting_word c rests = ap (λ m. tail_of (tail_place c.tail m) c.closed) rests

pub standing_word : {A : Type 0} (c : Chain A) → c.passer ≡ Stands → head_word c ≡ tail_of (place c.head) c.known
standing_word c stands = ap (λ p. tail_of (head_place c.head p) c.known) stands

-- a tail that was read at q of an open queue, and is the same: the queue is open there
pub same_tail : {A : Type 0} (c : Chain A) (q : ℕ) → ChainOk c → TailIs c q → tail_word c ≡ open_tail_of q → (c.closed ≡ false) × (c.tail ≡ q) × (c.mover ≡ Rests)
same_tail {A} c q ok is e = (closed, at, go is)
  where
    closed : c.closed ≡ false
    closed = sym (shut_tail (tail_place c.tail c.mover) c.closed) ∙ (ap is_shut e ∙ shut_tail (place q) false)

    at : c.tail ≡ q
    at = sym (tail_items c ok) ∙ (ap (λ w. items_before (position_of w)) e ∙ (let z : items_before (position_of (place q * 2)) ≡ q = omega arith in z))

    go : TailIs c q → c.mover ≡ Rests
    go (inl lt) = absurd (let now = at in omega arith)
    go (inr h) = h.1

-- a head that was read at n, and is the same, with its bit
pub same_head : {A : Type 0} (c : Chain A) (n : ℕ) (more : Bool) → ChainOk c → HeadIs c n → head_word c ≡ head_of n more → (c.known ≡ more) × (c.head ≡ n) × (c.passer ≡ Stands)
same_head {A} c n more ok is e = (known, at, go is)
  where
    known : c.known ≡ more
    known = sym (shut_tail (head_place c.head c.passer) c.known) ∙ (ap is_shut e ∙ shut_tail (place n) more)

    at : c.head ≡ n
    at = sym (head_items c ok) ∙ (ap (λ w. items_before (position_of w)) e ∙ (ap items_before (position_tail (place n) more) ∙ (let z : items_before (place n) ≡ n = omega arith in z)))

    go : HeadIs c n → c.passer ≡ Stands
    go (inl lt) = absurd (let now = at in omega arith)
    go (inr h) = h.1
