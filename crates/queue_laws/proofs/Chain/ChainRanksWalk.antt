-- The steps of the walk over a passed block, and of the calls that look, have fewer steps before them while nobody hinders them.
use Rattle.std.proofs.Common.{ℕ, ◌+◌, ◌-◌, ◌<◌, ◌≤◌, ◌≡◌, ◌≢◌, ◌==◌, ◌∙◌, Bool, true, false, if◌then◌else◌, nat_lt, Some, None, Ok, List, refl, sym, ap, subst, arith, bit_and}
use Rattle.std.proofs.lemmas.Bool.{cond_both, ltb-true}
use Rattle.queue_laws.specs.{Common.Vocabulary.Look, Common.Vocabulary.Reply, Common.Vocabulary.Word, Common.Vocabulary.Touch, Common.Vocabulary.Answer, Common.Vocabulary.Next, Common.Vocabulary.BLOCK_SLOTS, Common.Vocabulary.READ, Chain.ChainAnswers.tail_word, Chain.ChainAnswers.is_done}
use Rattle.queue_steps.specs.{declared.steps.chain.ChainLocal.ChainLocal as chain, Words.position_of, Words.is_shut, ChainWords.items_before, Looks.reply_of_look, ChainNext.ends, ChainNext.loads, ChainNext.walks, ChainNext.walks_on, ChainNext.chain_next}
use Rattle.queue_laws.specs.Chain.ChainCells.{Writer, Free, Writing, Reader, Unread, Reading, Done, Walker, Chain, ItemOk, WalkOk, item_at, LAST, ChainOk, reader_of}
use Rattle.queue_laws.proofs.Chain.ChainRanks.{lag, walk_rank, Falls}

-- the walk goes on after a slot
on_falls : {A : Type 0} (s : Chain A) (name slot : ℕ) → Falls s (walks_on name slot) (walk_rank slot)
on_falls s name slot =
    cond_both (nat_lt (slot + 2) BLOCK_SLOTS) (walks name (slot + 1) Touch.Nothing) (Next.Reply (Reply.Pop (Ok tt)) (Some name)) (λ x. Falls s x (walk_rank slot))
    (λ on. let lt = ltb-true (slot + 2) BLOCK_SLOTS on in omega arith) (λ over. tt)

-- V10, W2: the walk goes on after the slot, or the call replies
pub maybe_on_falls : {A : Type 0} (s : Chain A) (on : Bool) (name slot : ℕ) → Falls s (if on then walks_on name slot else ends (Reply.Pop (Ok tt))) (walk_rank slot)
maybe_on_falls s true name slot = on_falls s name slot
maybe_on_falls s false name slot = tt

-- W1: the state of a passed block's slot is read, and its item was read
pub walking_falls : {A : Type 0} (s : Chain A) (name slot st : ℕ) → (bit_and st READ == 0) ≡ false → Falls s (chain_next (chain.Walking name slot) (Answer.Found st)) (walk_rank slot)
walking_falls s name slot st read = rw read (on_falls s name slot)

-- an item that is claimed has left the list
claimed_low : {A : Type 0} (head tail : ℕ) (items : List A) (n : ℕ) (w : Writer A) (r : Reader) → r ≢ Unread → ItemOk head tail items n w r → n < head
claimed_low head tail items n w Unread ne ok = absurd (ne refl)
claimed_low head tail items n Free (Reading q) ne ok = absurd ok
claimed_low head tail items n Free Done ne ok = absurd ok
claimed_low head tail items n (Writing p v) Done ne ok = absurd ok
claimed_low head tail items n w r ne ok = ok

unclaimed_high : {A : Type 0} (head tail : ℕ) (items : List A) (n : ℕ) (w : Writer A) → head ≤ tail → ItemOk head tail items n w Unread → head ≤ n
unclaimed_high head tail items n Free low ok = omega arith
unclaimed_high head tail items n w low ok = ok.0

-- where nobody is to read an item before one that was claimed, it is read
pub done_then : {A : Type 0} (c : Chain A) (m n : ℕ) → ChainOk c → ((p : ℕ) → reader_of (c.readers m) ≢ Some p) → c.readers n ≢ Unread → m ≤ n → is_done (c.readers m) ≡ true
done_then {A} c m n ok free claimed low = go (c.readers m) refl (ok.item m)
  where
    left : n < c.head
    left = claimed_low c.head c.tail c.items n (c.writers n) (c.readers n) claimed (ok.item n)

    go : (r : Reader) → c.readers m ≡ r → ItemOk c.head c.tail c.items m (c.writers m) r → is_done (c.readers m) ≡ true
    go Done e h = ap is_done e
    go (Reading p) e h = absurd (free p (ap reader_of e))
    go Unread e h = absurd (let l = left in let count = ok.count in let high = unclaimed_high c.head c.tail c.items m (c.writers m) (omega arith) h in omega arith)

-- a walk over a block began once its last item was read
pub last_claimed : {A : Type 0} (c : Chain A) (who b slot : ℕ) → ChainOk c → c.walks b ≡ Walker who slot → (slot < LAST) × (c.readers (item_at b LAST) ≢ Unread)
last_claimed c who b slot ok is =
    let at : WalkOk c.readers b (Walker who slot) = subst (λ w. WalkOk c.readers b w) is (ok.walk b) in
    (at.0, λ e. let z : Done ≡ Unread = sym (at.1.0) ∙ e in cc)

-- Y3: the tail is read again, after the head
pub count_again_falls : {A : Type 0} (c : Chain A) (g : Look) (t h : ℕ) → Falls c (chain_next (chain.CountAgain g t h) (Answer.Found (tail_word c))) (1 + lag (tail_word c) t 3)
count_again_falls c g t h =
    elim (tail_word c == t) as (λ b. Falls c (if b then ends (reply_of_look None (items_before (position_of t) - items_before (position_of h)) (is_shut t) g) else loads (chain.CountTail g) Word.Tail) (1 + (if b then 0 else 3))) [ true ↦ tt | false ↦ omega arith ]
