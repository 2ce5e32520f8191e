-- The chain after each step of a call, by what the step found, and what the call carries then.
use Rattle.std.proofs.Common.{ℕ, ◌+◌, ◌/◌, ◌==◌, zero, suc, Bool, true, false, if◌then◌else◌, Option, Some, None, List}
use Rattle.queue_laws.specs.{Common.Stand.Stand, Chain.ChainFacts.head_of, Chain.ChainFacts.open_tail_of, Chain.ChainAnswers.tail_word, Chain.ChainAnswers.head_word, Chain.ChainAnswers.waits_at, Chain.ChainAnswers.is_done}
use Rattle.queue_laws.specs.Common.Vocabulary.{Answer, Local, Next, ChainLocal, BLOCK_SLOTS}
use Rattle.queue_steps.specs.{ChainWords.offset_of, State.State, declared.steps.chain.ChainLocal.ChainLocal as chain}
use Rattle.queue_laws.specs.Chain.ChainCells.{Rests, Laying, Stands, Passing, Walker, Waits, Chain, item_at, Spare}
use Rattle.queue_laws.specs.Chain.ChainTransitions.{appended, installed, taken, reads, walk_after, walked, displayed, laid_out, opened, chained, written, marked, renamed, passed, entered, given_up}
use Rattle.queue_laws.specs.Chain.ChainAt.{At, asking, installing, showing, claiming, laying, opening, chaining, writing, spending, taking, passing, entering, reading, beginning, walking, destroying, closing}

-- U4: the first block is installed where there is none yet
abbrev pub if_installed : {A : Type 0} → Chain A → ℕ → ℕ → ℕ → Chain A
if_installed c who f zero = installed c who f
if_installed c who f (suc b) = c

-- U5: the tail was as it was read, and the slot is the last of its block
abbrev pub claimed_if : {A : Type 0} → Chain A → ℕ → A → Bool → Bool → Chain A
claimed_if c who v true true = appended c who v (Laying who)
claimed_if c who v true false = appended c who v Rests
claimed_if c who v false last = c

-- the chain after the exchange of the tail that was read at q
abbrev pub if_claimed : {A : Type 0} → Chain A → ℕ → ℕ → A → Chain A
if_claimed c who q v = claimed_if c who v (tail_word c == open_tail_of q) (offset_of (open_tail_of q) + 1 == BLOCK_SLOTS)

-- V4: the head was as it was read, and the slot is the last of its block
abbrev pub taken_if : {A : Type 0} → Chain A → ℕ → Bool → Bool → Bool → Chain A
taken_if c who new true true = taken c who (Passing who) new
taken_if c who new true false = taken c who Stands new
taken_if c who new false last = c

-- the chain after the exchange of the head that was read at n
abbrev pub if_taken : {A : Type 0} → Chain A → ℕ → ℕ → Bool → Bool → Chain A
if_taken c who n more new = taken_if c who new (head_word c == head_of n more) (offset_of (head_of n more) + 1 == BLOCK_SLOTS)

-- V10: where the walk waits for the item, its reader walks on
abbrev pub if_read : {A : Type 0} → Chain A → ℕ → ℕ → ℕ → Chain A
if_read c who n slot = reads c n (if waits_at (c.walks (n / BLOCK_SLOTS)) slot then walk_after who slot else c.walks (n / BLOCK_SLOTS))

-- W1: the walk begins at the first slot, as the last slot's item is read
abbrev pub if_begun : {A : Type 0} → Chain A → ℕ → ℕ → Chain A
if_begun c who n = reads c n (if is_done (c.readers (item_at (n / BLOCK_SLOTS) 0)) then walk_after who 0 else Walker who 0)

-- W1: the walk passes a slot that is read
abbrev pub if_walked : {A : Type 0} → Chain A → ℕ → ℕ → ℕ → Chain A
if_walked c who b slot = if is_done (c.readers (item_at b slot)) then walked c b (walk_after who slot) else c

-- W2: it passes a slot that is read, or waits for its reader
abbrev pub if_destroyed : {A : Type 0} → Chain A → ℕ → ℕ → ℕ → Chain A
if_destroyed c who b slot = walked c b (if is_done (c.readers (item_at b slot)) then walk_after who slot else Waits slot)

-- the local state of a call on a chain. The last line stands for what is none
abbrev pub chain_of : Local ℕ → ChainLocal ℕ
chain_of (Local.Chain l) = l
chain_of _ = chain.PopHead

-- what the call carries after its touch: nothing once its item is put, the item once that is taken
abbrev pub carried_of : {A : Type 0} {c : Chain A} {who : ℕ} {ms : List (State A)} {k : Stand A} → At c who ms k → Option A
carried_of (writing d x n name spare holds mine spare_is) = None
carried_of (reading x n name more holds got wrote inner) = Some x
carried_of (beginning x n name more holds got wrote last) = Some x
carried_of {k = k} _ = k.carried

-- U3: the block is the call's, where it was granted
abbrev pub if_granted : {A : Type 0} → Chain A → ℕ → Answer ℕ → Chain A
if_granted c who (Answer.Granted f) = renamed c f (Spare who)
if_granted c who _ = c

-- the chain after the step that got this answer
abbrev pub after_of : {A : Type 0} {c : Chain A} {who : ℕ} {ms : List (State A)} {k : Stand A} → At c who ms k → Answer ℕ → Chain A
after_of {c = c} {who = who} (asking d x q block none saw asked) a = if_granted c who a
after_of {c = c} {who = who} (installing d x f none saw fresh) a = if_installed c who f c.blocks
after_of {c = c} (showing d x name first saw is named) a = displayed c
after_of {c = c} {who = who} (claiming d x q name spare none spare_is saw block enough) a = if_claimed c who q x
after_of {c = c} {who = who} (laying d x n name f holds mine lays fresh) a = laid_out c who f
after_of {c = c} (opening d x n name f holds mine opens links named) a = opened c
after_of {c = c} (chaining d x n name f holds mine links named) a = chained c (n / BLOCK_SLOTS)
after_of {c = c} (writing d x n name spare holds mine spare_is) a = written c n x
after_of {c = c} (spending d x spare none spare_is spent) a = marked c
after_of {c = c} {who = who} (taking n name next more new none is front there word_is room) a = if_taken c who n more new
after_of {c = c} {who = who} (passing x n name after more further holds got pass behind room) a = passed c who
after_of {c = c} (entering x n name more further holds got enters room) a = entered c further
after_of {c = c} {who = who} (reading x n name more holds got wrote inner) a = if_read c who n (offset_of (head_of n more))
after_of {c = c} {who = who} (beginning x n name more holds got wrote last) a = if_begun c who n
after_of {c = c} {who = who} (walking x b name slot holds is named) a = if_walked c who b slot
after_of {c = c} {who = who} (destroying x b name slot holds is named) a = if_destroyed c who b slot
after_of {c = c} (closing none) a = marked c
after_of {c = c} _ a = c

-- the chain once a call that replies has given its block up
abbrev pub left_by : {A : Type 0} → Chain A → Next ℕ → Chain A
left_by r (Next.Step l t o) = r
left_by r (Next.Reply x spare) = given_up r spare
