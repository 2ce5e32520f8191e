-- Each step of a call on a chain, wherever the call stands, is right.
use Rattle.std.proofs.Common.{ℕ, ◌+◌, ◌/◌, ◌≡◌, inl, inr, List, refl, subst, arith}
use Rattle.queue_laws.specs.{Common.Vocabulary.Answer, Common.Vocabulary.Local, Common.Vocabulary.BLOCK_SLOTS, Common.Stand.Stand, Chain.ChainCells.Chain, Chain.ChainCells.ChainOk, Chain.ChainFacts.head_of, Chain.ChainAnswers.Answers, Chain.ChainAnswers.IsState, Chain.ChainAfter.chain_of}
use Rattle.queue_laws.specs.Chain.ChainAfter.{carried_of, after_of}
use Rattle.queue_steps.specs.{State.State, ChainWords.offset_of}
use Rattle.queue_laws.specs.Chain.ChainAt.{At, push_tail, push_block, asking, installing, showing, claiming, laying, opening, chaining, writing, spending, pop_head, pop_block, pop_tail, taking, following, peeking, passing, entering, awaiting, reading, beginning, walking, destroying, count_tail}
use Rattle.queue_laws.specs.Chain.ChainAt.{count_head, count_again, empty_head, empty_tail, closing, closed_tail}
use Rattle.queue_laws.proofs.Chain.{ChainAnswers.head_offset, ChainStepOk.StepOk, ChainPush.good_push_tail, ChainPush.good_push_block, ChainPush.good_refused, ChainPush.good_granted, ChainPop.good_pop_head, ChainPop.good_pop_block, ChainPop.good_taking, ChainPop.good_following}
use Rattle.queue_laws.proofs.Chain.{ChainPop.good_passing, ChainPop.good_entering, ChainPop.read_small, ChainEmpty.good_pop_tail, ChainPeek.good_peeking, ChainRead.good_awaiting, ChainRead.good_reading, ChainBegin.good_beginning, ChainWalk.good_walking, ChainWalk.good_destroying}
use Rattle.queue_laws.proofs.Chain.{ChainLook.good_closed_tail, ChainLook.good_count_tail, ChainLook.good_count_head, ChainLook.good_count_again, ChainLook.good_empty_head, ChainLook.good_closing, ChainIsEmpty.good_empty_tail}
use Rattle.queue_laws.proofs.Chain.ChainClaim.{good_installing, good_showing, good_claiming, good_laying, good_opening, good_chaining, good_writing, good_spending}

-- a call that stands on a chain is at a local state of a chain
pub is_chain : {A : Type 0} {c : Chain A} {who : ℕ} {ms : List (State A)} {k : Stand A} → At c who ms k → k.local ≡ Local.Chain (chain_of k.local)
is_chain (push_tail d x spare none spare_is) = refl
is_chain x = refl

-- each step of a call is right
pub step_good : {A : Type 0} {c : Chain A} {who : ℕ} {ms : List (State A)} {k : Stand A} (at : At c who ms k) (a : Answer ℕ)
    → ChainOk c → Answers c k.op a → StepOk c (after_of at a) who ms (chain_of k.local) (carried_of at) k.call k.effects a
step_good {c = c} {who = who} {ms = ms} (push_tail d x spare none spare_is) a ok found = rw found (good_push_tail c who ms d x spare ok none spare_is)
step_good {c = c} {who = who} {ms = ms} (push_block d x spare q none spare_is saw) a ok found = rw found (good_push_block c who ms d x spare q ok none spare_is saw)
step_good {c = c} {who = who} {ms = ms} (asking d x q block none saw asked) a ok (inl refused) = rw refused (good_refused c who ms d x q block ok none saw asked)
step_good {c = c} {who = who} {ms = ms} (asking d x q block none saw asked) a ok (inr granted) = rw (granted.1) (good_granted c who ms d x q block granted.0 ok none saw asked granted.2)
step_good {c = c} {who = who} {ms = ms} (installing d x f none saw fresh) a ok found = rw found (good_installing c who ms d x f ok none saw fresh)
step_good {c = c} {who = who} {ms = ms} (showing d x name first saw is named) a ok found = rw found (good_showing c who ms d x name ok first saw is named)
step_good {c = c} {who = who} {ms = ms} (claiming d x q name spare none spare_is saw block enough) a ok found = rw found (good_claiming c who ms d x q name spare ok none spare_is saw block enough)
step_good {c = c} {who = who} {ms = ms} (laying d x n name f holds mine lays fresh) a ok found = rw found (good_laying c who ms d x n name f ok holds mine lays fresh)
step_good {c = c} {who = who} {ms = ms} (opening d x n name f holds mine opens links named) a ok found = rw found (good_opening c who ms d x n name f ok holds mine opens links named)
step_good {c = c} {who = who} {ms = ms} (chaining d x n name f holds mine links named) a ok found = rw found (good_chaining c who ms d x n name f ok holds mine links named)
step_good {c = c} {who = who} {ms = ms} (writing d x n name spare holds mine spare_is) a ok found =
    let h = found (n / BLOCK_SLOTS) mine.named in rw (h.1) (good_writing c who ms d x n name spare h.0 ok holds mine spare_is)
step_good {c = c} {who = who} {ms = ms} (spending d x spare none spare_is spent) a ok found = rw found (good_spending c who ms d x spare ok none spare_is spent)
step_good {c = c} {who = who} {ms = ms} (pop_head none) a ok found = rw found (good_pop_head c who ms ok none)
step_good {c = c} {who = who} {ms = ms} (pop_block n more none is room) a ok found = rw found (good_pop_block c who ms n more ok none is room)
step_good {c = c} {who = who} {ms = ms} (pop_tail n block none is front) a ok found = rw found (good_pop_tail c who ms n block ok none is front)
step_good {c = c} {who = who} {ms = ms} (taking n name next more new none is front there word_is room) a ok found = rw found (good_taking c who ms n name next more new ok none is front there room)
step_good {c = c} {who = who} {ms = ms} (following x n name more holds got pass) a ok found = rw (found (n / BLOCK_SLOTS) got.named) (good_following c who ms x n name more ok holds got pass)
step_good {c = c} {who = who} {ms = ms} (peeking x n name after more holds got pass behind) a ok found =
    rw (found (n / BLOCK_SLOTS + 1) behind.1) (good_peeking c who ms x n name after more ok holds got pass behind)
step_good {c = c} {who = who} {ms = ms} (passing x n name after more further holds got pass behind room) a ok found =
    rw found (good_passing c who ms x n name after more further ok holds got pass behind room (read_small c n more ok (inl (let at_n = pass.1 in omega arith))))
step_good {c = c} {who = who} {ms = ms} (entering x n name more further holds got enters room) a ok found = rw found (good_entering c who ms x n name more further ok holds got enters room)
step_good {c = c} {who = who} {ms = ms} (awaiting x n name more holds got) a ok found =
    let h = found (n / BLOCK_SLOTS) got.named in rw (h.1) (good_awaiting c who ms x n name more h.0 ok holds got (subst (λ i. IsState c (n / BLOCK_SLOTS) i h.0) (head_offset n more) h.2))
step_good {c = c} {who = who} {ms = ms} (reading x n name more holds got wrote inner) a ok found =
    let h = found (n / BLOCK_SLOTS) got.named in rw (h.1) (good_reading c who ms x n name (offset_of (head_of n more)) h.0 ok holds got wrote inner (head_offset n more) h.2)
step_good {c = c} {who = who} {ms = ms} (beginning x n name more holds got wrote last) a ok found =
    let h = found (n / BLOCK_SLOTS) got.named in rw (h.1) (good_beginning c who ms x n name h.0 ok holds got wrote last h.2)
step_good {c = c} {who = who} {ms = ms} (walking x b name slot holds is named) a ok found = let h = found b named in rw (h.1) (good_walking c who ms x b name slot h.0 ok holds is named h.2)
step_good {c = c} {who = who} {ms = ms} (destroying x b name slot holds is named) a ok found = let h = found b named in rw (h.1) (good_destroying c who ms x b name slot h.0 ok holds is named h.2)
step_good {c = c} {who = who} {ms = ms} (count_tail g count none) a ok found = rw found (good_count_tail c who ms g ok count none)
step_good {c = c} {who = who} {ms = ms} (count_head g w count none small low) a ok found = rw found (good_count_head c who ms g w ok count none small low)
step_good {c = c} {who = who} {ms = ms} (count_again g w h count none small seen) a ok found = rw found (good_count_again c who ms g w h ok count none small seen)
step_good {c = c} {who = who} {ms = ms} (empty_head none) a ok found = rw found (good_empty_head c who ms ok none)
step_good {c = c} {who = who} {ms = ms} (empty_tail h none small saw) a ok found = rw found (good_empty_tail c who ms h ok none small saw)
step_good {c = c} {who = who} {ms = ms} (closing none) a ok found = rw found (good_closing c who ms ok none)
step_good {c = c} {who = who} {ms = ms} (closed_tail none) a ok found = rw found (good_closed_tail c who ms ok none)
