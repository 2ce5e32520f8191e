-- Each step of a call on a chain leaves fewer steps before it while nobody hinders it, also while no other party holds a part of the chain, and each step of a wait-free call always.
use Rattle.std.proofs.Common.{true, ℕ, ◌+◌, ◌/◌, ◌%◌, ◌<◌, ◌≤◌, ◌≡◌, ◌≢◌, ◌==◌, not, ◌∙◌, inl, inr, List, refl, sym, ap, subst, arith, bit_and, false}
use Rattle.queue_laws.specs.{Common.Vocabulary.Local, Common.Vocabulary.Answer, Common.Vocabulary.BLOCK_SLOTS, Common.Vocabulary.READ, Common.Vocabulary.DESTROY, Common.Stand.Stand, Chain.ChainFacts.head_of, Chain.ChainFacts.open_tail_of, Chain.ChainAnswers.Answers, Chain.ChainAnswers.IsState}
use Rattle.queue_laws.specs.Chain.{ChainAnswers.tail_word, ChainAnswers.is_wrote, ChainAfter.if_read, ChainAfter.if_walked, ChainAfter.if_begun, ChainAfter.if_destroyed, ChainAfter.chain_of, ChainAfter.after_of}
use Rattle.queue_steps.specs.{WaitFree.is_wait_free, State.State, Words.position_of, ChainWords.offset_of, ChainNext.is_last_slot, ChainNext.chain_next, declared.steps.chain.ChainLocal.ChainLocal as chain}
use Rattle.queue_laws.proofs.{Common.Pushes.never_push, Chain.ChainReads.own_item, Chain.ChainAnswers.head_offset, Chain.ChainRanksWalk.maybe_on_falls, Chain.ChainRanksWalk.walking_falls, Chain.ChainRanksWalk.done_then, Chain.ChainRanksWalk.last_claimed, Chain.ChainRanksWalk.count_again_falls}
use Rattle.queue_laws.proofs.Chain.ChainRanks.{rank, Falls, lag_none, is_seen, IsBare, unheld}
use Rattle.queue_laws.proofs.Chain.ChainRanksPush.{rests, push_tail_falls, push_block_falls, granted_falls, installing_falls, showing_falls, claiming_falls}
use Rattle.queue_laws.proofs.Chain.ChainRanksPop.{stands, head_falls, pop_block_falls, unshown_place, pop_tail_falls, taking_falls, following_falls, wrote_then, awaiting_falls}
use Rattle.queue_laws.specs.Chain.ChainCells.{Reading, Unread, Chain, ChainOk, item_at, LAST, Write, Read, Head, Next, First, Passed, HoldsOnly, Nothing}
use Rattle.queue_laws.specs.Chain.ChainAt.{Only, Either, At, push_tail, push_block, asking, installing, showing, claiming, laying, opening, chaining, writing, spending, pop_head, pop_block, pop_tail, taking, following, peeking, passing, entering, awaiting, reading, beginning, walking, destroying}
use Rattle.queue_laws.specs.Chain.ChainAt.{count_tail, count_head, count_again, empty_head, empty_tail, closing, closed_tail}

-- where a pop may find no block, nothing was accepted yet
abbrev pub IsReady : {A : Type 0} → Chain A → Local ℕ → Type 0
IsReady c (Local.Chain (chain.PopBlock head)) = is_seen c.shown ≡ false → position_of (tail_word c) ≡ 0
IsReady c _ = Unit {0}

-- each step of a call that nobody hinders leaves fewer steps before it
pub step_falls : {A : Type 0} {c : Chain A} {who : ℕ} {ms : List (State A)} {k : Stand A} (at : At c who ms k) (a : Answer ℕ)
    → ChainOk c → Answers c k.op a → IsBare c who → IsReady c k.local → Falls (after_of at a) (chain_next (chain_of k.local) a) (rank c k.local)
step_falls {c = c} {who = who} (push_tail d x spare none spare_is) a ok found bare ready = rw found (push_tail_falls c d spare (rests c who Nothing bare none (λ z. z)))
step_falls {c = c} {who = who} (push_block d x spare q none spare_is saw) a ok found bare ready = rw found (push_block_falls c who d (open_tail_of q) spare ok spare_is)
step_falls {c = c} {who = who} (asking d x q block none saw asked) a ok (inl refused) bare ready = rw refused tt
step_falls {c = c} {who = who} (asking d x q block none saw asked) a ok (inr granted) bare ready = rw (granted.1) (granted_falls c who d (open_tail_of q) block granted.0)
step_falls {c = c} {who = who} (installing d x f none saw fresh) a ok found bare ready = rw found (installing_falls c who d (open_tail_of 0) f c.blocks)
step_falls {c = c} {who = who} (showing d x name first saw is named) a ok found bare ready = rw found (showing_falls c d (open_tail_of 0) name)
step_falls {c = c} {who = who} (claiming d x q name spare none spare_is saw block enough) a ok found bare ready =
    rw found (claiming_falls c who d x q name spare (is_last_slot (open_tail_of q)) (tail_word c == open_tail_of q) refl ok saw.is (rests c who Nothing bare none (λ z. z)))
step_falls (laying d x n name f holds mine lays fresh) a ok found bare ready = rw found (omega arith)
step_falls (opening d x n name f holds mine opens links named) a ok found bare ready = rw found (omega arith)
step_falls (chaining d x n name f holds mine links named) a ok found bare ready = rw found (omega arith)
step_falls (writing d x n name spare holds mine spare_is) a ok found bare ready = let h = found (n / BLOCK_SLOTS) mine.named in rw (h.1) tt
step_falls (spending d x spare none spare_is spent) a ok found bare ready = rw found tt
step_falls {c = c} {who = who} (pop_head none) a ok found bare ready = rw found (head_falls c (stands c who Nothing bare none (λ z. z)))
step_falls {c = c} {who = who} (pop_block n more none is room) a ok found bare ready = rw found (pop_block_falls c n more room ready)
step_falls {c = c} {who = who} (pop_tail n block none is front) a ok found bare ready = rw found (pop_tail_falls c n block ok is)
step_falls {c = c} {who = who} (taking n name next more new none is front there word_is room) a ok found bare ready =
    rw found (taking_falls c who (head_of n more) name new (stands c who Nothing bare none (λ z. z)))
step_falls {c = c} {who = who} (following x n name more holds got pass) a ok found bare ready =
    rw (found (n / BLOCK_SLOTS) got.named)
    (following_falls c who n (head_of n more) name ok (rests c who (Either (Read n) Head) bare holds (λ z. elim z [ inl y ↦ absurd (cc) | inr y ↦ absurd (cc) ]))
    (unheld c who (Either (Read n) Head) (Only First) (Next (n / BLOCK_SLOTS)) bare holds (λ z. elim z [ inl y ↦ absurd (cc) | inr y ↦ absurd (cc) ]) (λ z. absurd (cc))) pass)
step_falls (peeking x n name after more holds got pass behind) a ok found bare ready = rw (found (n / BLOCK_SLOTS + 1) behind.1) (omega arith)
step_falls (passing x n name after more further holds got pass behind room) a ok found bare ready = rw found (omega arith)
step_falls (entering x n name more further holds got enters room) a ok found bare ready = rw found (omega arith)
step_falls {c = c} {who = who} (awaiting x n name more holds got) a ok found bare ready =
    let h = found (n / BLOCK_SLOTS) got.named in
    let state : IsState c (n / BLOCK_SLOTS) (n % BLOCK_SLOTS) h.0 = subst (λ i. IsState c (n / BLOCK_SLOTS) i h.0) (head_offset n more) h.2 in
    let wrote = wrote_then c who n ok (unheld c who (Only (Read n)) (Only First) (Write n) bare holds (λ z. absurd (cc)) (λ z. absurd (cc))) got.mine in
    rw (h.1) (awaiting_falls c (head_of n more) name h.0 (state.written ∙ (ap (λ m. not (is_wrote (c.writers m))) (own_item n) ∙ ap not wrote)))
step_falls {c = c} {who = who} (reading x n name more holds got wrote inner) a ok found bare ready =
    let h = found (n / BLOCK_SLOTS) got.named in
    rw (h.1) (maybe_on_falls (if_read c who n (offset_of (head_of n more))) (not (bit_and h.0 DESTROY == 0)) name (offset_of (head_of n more)))
step_falls {c = c} {who = who} (beginning x n name more holds got wrote last) a ok found bare ready =
    let h = found (n / BLOCK_SLOTS) got.named in
    let other : item_at (n / BLOCK_SLOTS) 0 < n = omega (arith, last) in
    let free = unheld c who (Only (Read n)) (Only First) (Read (item_at (n / BLOCK_SLOTS) 0)) bare holds (λ z. let y : item_at (n / BLOCK_SLOTS) 0 ≡ n = cc in absurd (omega arith)) (λ z. absurd (cc)) in
    let done = done_then c (item_at (n / BLOCK_SLOTS) 0) n ok free (λ e. let y : Reading who ≡ Unread = sym got.mine ∙ e in cc) (omega arith) in
    rw (h.1) (walking_falls (if_begun c who n) name 0 h.0 (h.2.read ∙ ap not done))
step_falls {c = c} {who = who} (walking x b name slot holds is named) a ok found bare ready =
    let h = found b named in
    let began = last_claimed c who b slot ok is in
    let free = unheld c who (Only (Passed b)) (Only First) (Read (item_at b slot)) bare holds (λ z. absurd (cc)) (λ z. absurd (cc)) in
    let done = done_then c (item_at b slot) (item_at b LAST) ok free began.1 (let low = began.0 in omega arith) in
    rw (h.1) (walking_falls (if_walked c who b slot) name slot h.0 (h.2.read ∙ ap not done))
step_falls {c = c} {who = who} (destroying x b name slot holds is named) a ok found bare ready =
    let h = found b named in rw (h.1) (maybe_on_falls (if_destroyed c who b slot) (not (bit_and h.0 READ == 0)) name slot)
step_falls {c = c} (count_tail g count none) a ok found bare ready = rw found (lag_none (tail_word c) 2 3 3 (omega arith))
step_falls (count_head g w count none small low) a ok found bare ready = rw found (omega arith)
step_falls {c = c} (count_again g w h count none small seen) a ok found bare ready = rw found (count_again_falls c g w h)
step_falls (empty_head none) a ok found bare ready = rw found (omega arith)
step_falls (empty_tail h none small saw) a ok found bare ready = rw found tt
step_falls (closing none) a ok found bare ready = rw found tt
step_falls (closed_tail none) a ok found bare ready = rw found tt

-- no other party holds a part
abbrev pub IsQuiet : {A : Type 0} → Chain A → ℕ → Type 0
IsQuiet c who = (other : ℕ) → other ≢ who → HoldsOnly c other Nothing

quiet_ready : {A : Type 0} {c : Chain A} {who : ℕ} {ms : List (State A)} {k : Stand A} → At c who ms k → ChainOk c → IsQuiet c who → IsReady c k.local
quiet_ready {c = c} {who = who} (pop_block n more none is room) ok quiet = unshown_place c ok (unheld c who Nothing Nothing First quiet none (λ z. z) (λ z. z))
quiet_ready _ ok quiet = tt

-- so does each step of a call that is alone
pub alone_falls : {A : Type 0} {c : Chain A} {who : ℕ} {ms : List (State A)} {k : Stand A} (at : At c who ms k) (a : Answer ℕ)
    → ChainOk c → Answers c k.op a → IsQuiet c who → Falls (after_of at a) (chain_next (chain_of k.local) a) (rank c k.local)
alone_falls at a ok found quiet = step_falls at a ok found (λ j ne x e. absurd (quiet j ne x e)) (quiet_ready at ok quiet)

-- each step of a wait-free call leaves fewer steps before it, whoever holds a part
pub wait_free_falls : {A : Type 0} {c : Chain A} {who : ℕ} {ms : List (State A)} {k : Stand A} (at : At c who ms k) (a : Answer ℕ)
    → Answers c k.op a → is_wait_free k.call ≡ true → Falls (after_of at a) (chain_next (chain_of k.local) a) (rank c k.local)
wait_free_falls (push_tail d x spare none spare_is) a found wait_free = absurd (never_push d x wait_free)
wait_free_falls (push_block d x spare q none spare_is saw) a found wait_free = absurd (never_push d x wait_free)
wait_free_falls (asking d x q block none saw asked) a found wait_free = absurd (never_push d x wait_free)
wait_free_falls (installing d x f none saw fresh) a found wait_free = absurd (never_push d x wait_free)
wait_free_falls (showing d x name first saw is named) a found wait_free = absurd (never_push d x wait_free)
wait_free_falls (claiming d x q name spare none spare_is saw block enough) a found wait_free = absurd (never_push d x wait_free)
wait_free_falls (laying d x n name f holds mine lays fresh) a found wait_free = absurd (never_push d x wait_free)
wait_free_falls (opening d x n name f holds mine opens links named) a found wait_free = absurd (never_push d x wait_free)
wait_free_falls (chaining d x n name f holds mine links named) a found wait_free = absurd (never_push d x wait_free)
wait_free_falls (writing d x n name spare holds mine spare_is) a found wait_free = absurd (never_push d x wait_free)
wait_free_falls (spending d x spare none spare_is spent) a found wait_free = absurd (never_push d x wait_free)
wait_free_falls (empty_head none) a found wait_free = rw found (omega arith)
wait_free_falls (empty_tail h none small saw) a found wait_free = rw found tt
wait_free_falls (closing none) a found wait_free = rw found tt
wait_free_falls (closed_tail none) a found wait_free = rw found tt
wait_free_falls (count_tail g count none) a found wait_free = absurd (let f : true ≡ false = sym wait_free ∙ count in cc)
wait_free_falls (count_head g w count none small low) a found wait_free = absurd (let f : true ≡ false = sym wait_free ∙ count in cc)
wait_free_falls (count_again g w h count none small seen) a found wait_free = absurd (let f : true ≡ false = sym wait_free ∙ count in cc)
wait_free_falls at a found wait_free = cc

-- a wait-free call has two steps before it at most, whatever the chain
pub wait_free_small : {A : Type 0} {c : Chain A} {who : ℕ} {ms : List (State A)} {k : Stand A} (s : Chain A)
    → At c who ms k → is_wait_free k.call ≡ true → (rank s k.local ≤ 2) × (rank s k.local ≡ rank c k.local)
wait_free_small s (push_tail d x spare none spare_is) wait_free = absurd (never_push d x wait_free)
wait_free_small s (push_block d x spare q none spare_is saw) wait_free = absurd (never_push d x wait_free)
wait_free_small s (asking d x q block none saw asked) wait_free = absurd (never_push d x wait_free)
wait_free_small s (installing d x f none saw fresh) wait_free = absurd (never_push d x wait_free)
wait_free_small s (showing d x name first saw is named) wait_free = absurd (never_push d x wait_free)
wait_free_small s (claiming d x q name spare none spare_is saw block enough) wait_free = absurd (never_push d x wait_free)
wait_free_small s (laying d x n name f holds mine lays fresh) wait_free = absurd (never_push d x wait_free)
wait_free_small s (opening d x n name f holds mine opens links named) wait_free = absurd (never_push d x wait_free)
wait_free_small s (chaining d x n name f holds mine links named) wait_free = absurd (never_push d x wait_free)
wait_free_small s (writing d x n name spare holds mine spare_is) wait_free = absurd (never_push d x wait_free)
wait_free_small s (spending d x spare none spare_is spent) wait_free = absurd (never_push d x wait_free)
wait_free_small s (empty_head none) wait_free = (omega arith, refl)
wait_free_small s (empty_tail h none small saw) wait_free = (omega arith, refl)
wait_free_small s (closing none) wait_free = (omega arith, refl)
wait_free_small s (closed_tail none) wait_free = (omega arith, refl)
wait_free_small s (count_tail g count none) wait_free = absurd (let f : true ≡ false = sym wait_free ∙ count in cc)
wait_free_small s (count_head g w count none small low) wait_free = absurd (let f : true ≡ false = sym wait_free ∙ count in cc)
wait_free_small s (count_again g w h count none small seen) wait_free = absurd (let f : true ≡ false = sym wait_free ∙ count in cc)
wait_free_small s x wait_free = cc
