-- No step of another party takes away where a call on a chain stands, nor what it knows there.
use Rattle.std.proofs.Common.{ℕ, ◌+◌, ◌/◌, ◌≡◌, ◌≢◌, ◌⊎◌, Bool, Option, Some, None, List, arith}
use Rattle.queue_laws.specs.{Common.Vocabulary.BLOCK_SLOTS, Common.Moments.seen_by, Common.Stand.Stand, Chain.ChainPasses.Passes}
use Rattle.queue_steps.specs.{State.State, Words.position_of, ChainWords.items_before}
use Rattle.queue_laws.specs.Chain.ChainCells.{Chain, queue_of, ChainOk, Write, Read, Tail, Head, Next, First, Passed, Nothing}
use Rattle.queue_laws.proofs.Chain.ChainFacts.{tail_grows, head_is_stays, named_stays, tail_block_stays, head_block_stays, head_read_stays, more_stays, spare_stays, holds_stays, head_was_stays, saw_empty_stays, saw_stays, claimed_stays, got_stays, lays_stays, opens_stays, passing_stays}
use Rattle.queue_laws.proofs.Chain.ChainFacts.{entering_stays, linking_stays, showing_stays, walker_stays}
use Rattle.queue_laws.specs.Chain.ChainAt.{Only, Either, Asks, IsBehind, IsFurther, At, push_tail, push_block, asking, installing, showing, claiming, laying, opening, chaining, writing, spending, pop_head, pop_block, pop_tail, taking, following, peeking, passing, entering, awaiting, reading}
use Rattle.queue_laws.specs.Chain.ChainAt.{beginning, walking, destroying, count_tail, count_head, count_again, empty_head, empty_tail, closing, closed_tail}

pub asks_stays : {A : Type 0} {r s : Chain A} (who q : ℕ) (block : Option ℕ) → Passes who r s → Asks r q block → Asks s q block
asks_stays who q None pass h = h
asks_stays who q (Some name) pass h = (h.0, tail_block_stays who q name pass h.1)

pub behind_stays : {A : Type 0} {r s : Chain A} (who n name : ℕ) → Passes who r s → IsBehind r n name → IsBehind s n name
behind_stays who n name pass (linked, named) = (pass.linked (n / BLOCK_SLOTS) linked, named_stays who (n / BLOCK_SLOTS + 1) name pass named)

pub further_stays : {A : Type 0} {r s : Chain A} (who n : ℕ) (more : Bool) → Passes who r s → IsFurther r n more → IsFurther s n more
further_stays who n more pass is = λ e. let h = is e in let g = tail_grows who pass in omega arith

-- a step of another party leaves a call where it stands, with all that it knows
pub at_stays : {A : Type 0} {r s : Chain A} {who other : ℕ} {ms : List (State A)} {k : Stand A}
    → ChainOk r → ChainOk s → other ≢ who → Passes who r s → At r other ms k → At s other (seen_by (queue_of s) ms) k
at_stays {r = r} {s = s} {who = who} {other = other} {ms = ms} ok ok2 ne pass (push_tail d v spare none spare_is) =
    push_tail d v spare (holds_stays who other Nothing ne pass none) (spare_stays who other spare ne pass spare_is)
at_stays {r = r} {s = s} {who = who} {other = other} {ms = ms} ok ok2 ne pass (push_block d v spare q none spare_is saw) =
    push_block d v spare q (holds_stays who other Nothing ne pass none) (spare_stays who other spare ne pass spare_is) (saw_stays who q ms (queue_of s) pass saw)
at_stays {r = r} {s = s} {who = who} {other = other} {ms = ms} ok ok2 ne pass (asking d v q block none saw asked) =
    asking d v q block (holds_stays who other Nothing ne pass none) (saw_stays who q ms (queue_of s) pass saw) (asks_stays who q block pass asked)
at_stays {r = r} {s = s} {who = who} {other = other} {ms = ms} ok ok2 ne pass (installing d v f none saw fresh) =
    installing d v f (holds_stays who other Nothing ne pass none) (saw_stays who 0 ms (queue_of s) pass saw) (pass.spares f other ne fresh)
at_stays {r = r} {s = s} {who = who} {other = other} {ms = ms} ok ok2 ne pass (showing d v name none saw is named) =
    showing d v name (holds_stays who other (Only First) ne pass none) (saw_stays who 0 ms (queue_of s) pass saw) (showing_stays who other ne pass is) (named_stays who 0 name pass named)
at_stays {r = r} {s = s} {who = who} {other = other} {ms = ms} ok ok2 ne pass (claiming d v q name spare none spare_is saw block enough) =
    claiming d v q name spare (holds_stays who other Nothing ne pass none) (spare_stays who other spare ne pass spare_is) (saw_stays who q ms (queue_of s) pass saw) (tail_block_stays who q name pass block) enough
at_stays {r = r} {s = s} {who = who} {other = other} {ms = ms} ok ok2 ne pass (laying d v n name f none mine lays fresh) =
    laying d v n name f (holds_stays who other (Either (Write n) Tail) ne pass none) (claimed_stays who other n v name ne pass mine) (lays_stays who other n ne pass lays) (pass.spares f other ne fresh)
at_stays {r = r} {s = s} {who = who} {other = other} {ms = ms} ok ok2 ne pass (opening d v n name f none mine opens links named) =
    opening d v n name f (holds_stays who other (λ x. (x ≡ Write n) ⊎ (x ≡ Tail) ⊎ (x ≡ Next (n / BLOCK_SLOTS))) ne pass none) (claimed_stays who other n v name ne pass mine)
    (opens_stays who other n ne pass opens) (linking_stays who other (n / BLOCK_SLOTS) ne pass links) (named_stays who (n / BLOCK_SLOTS + 1) f pass named)
at_stays {r = r} {s = s} {who = who} {other = other} {ms = ms} ok ok2 ne pass (chaining d v n name f none mine links named) =
    chaining d v n name f (holds_stays who other (Either (Write n) (Next (n / BLOCK_SLOTS))) ne pass none) (claimed_stays who other n v name ne pass mine) (linking_stays who other (n / BLOCK_SLOTS) ne pass links) (named_stays who (n / BLOCK_SLOTS + 1) f pass named)
at_stays {r = r} {s = s} {who = who} {other = other} {ms = ms} ok ok2 ne pass (writing d v n name spare none mine spare_is) =
    writing d v n name spare (holds_stays who other (Only (Write n)) ne pass none) (claimed_stays who other n v name ne pass mine) (spare_stays who other spare ne pass spare_is)
at_stays {r = r} {s = s} {who = who} {other = other} {ms = ms} ok ok2 ne pass (spending d v spare none spare_is spent) =
    spending d v spare (holds_stays who other Nothing ne pass none) (spare_stays who other spare ne pass spare_is) (let g = tail_grows who pass in omega arith)
at_stays {r = r} {s = s} {who = who} {other = other} {ms = ms} ok ok2 ne pass (pop_head none) =
    pop_head (holds_stays who other Nothing ne pass none)
at_stays {r = r} {s = s} {who = who} {other = other} {ms = ms} ok ok2 ne pass (pop_block n more none is room) =
    pop_block n more (holds_stays who other Nothing ne pass none) (head_is_stays who n pass is) (more_stays who n more pass room)
at_stays {r = r} {s = s} {who = who} {other = other} {ms = ms} ok ok2 ne pass (pop_tail n block none is front) =
    pop_tail n block (holds_stays who other Nothing ne pass none) (head_is_stays who n pass is) (head_read_stays who n block pass front)
at_stays {r = r} {s = s} {who = who} {other = other} {ms = ms} ok ok2 ne pass (taking n name next more new none is front there word_is room) =
    taking n name next more new (holds_stays who other Nothing ne pass none) (head_is_stays who n pass is) (head_block_stays who n name pass front) (let g = tail_grows who pass in omega arith) word_is (more_stays who n new pass room)
at_stays {r = r} {s = s} {who = who} {other = other} {ms = ms} ok ok2 ne pass (following x n name more none got passes) =
    following x n name more (holds_stays who other (Either (Read n) Head) ne pass none) (got_stays who other n x name ne pass got) (passing_stays who other n ne pass passes)
at_stays {r = r} {s = s} {who = who} {other = other} {ms = ms} ok ok2 ne pass (peeking x n name after more none got passes behind) =
    peeking x n name after more (holds_stays who other (Either (Read n) Head) ne pass none) (got_stays who other n x name ne pass got) (passing_stays who other n ne pass passes) (behind_stays who n after pass behind)
at_stays {r = r} {s = s} {who = who} {other = other} {ms = ms} ok ok2 ne pass (passing x n name after more further none got passes behind room) =
    passing x n name after more further (holds_stays who other (Either (Read n) Head) ne pass none) (got_stays who other n x name ne pass got) (passing_stays who other n ne pass passes) (behind_stays who n after pass behind) (further_stays who n further pass room)
at_stays {r = r} {s = s} {who = who} {other = other} {ms = ms} ok ok2 ne pass (entering x n name more further none got enters room) =
    entering x n name more further (holds_stays who other (Either (Read n) Head) ne pass none) (got_stays who other n x name ne pass got) (entering_stays who other n ne pass enters) (further_stays who n further pass room)
at_stays {r = r} {s = s} {who = who} {other = other} {ms = ms} ok ok2 ne pass (awaiting x n name more none got) =
    awaiting x n name more (holds_stays who other (Only (Read n)) ne pass none) (got_stays who other n x name ne pass got)
at_stays {r = r} {s = s} {who = who} {other = other} {ms = ms} ok ok2 ne pass (reading x n name more none got wrote inner) =
    reading x n name more (holds_stays who other (Only (Read n)) ne pass none) (got_stays who other n x name ne pass got) (pass.wrote n x wrote) inner
at_stays {r = r} {s = s} {who = who} {other = other} {ms = ms} ok ok2 ne pass (beginning x n name more none got wrote last) =
    beginning x n name more (holds_stays who other (Only (Read n)) ne pass none) (got_stays who other n x name ne pass got) (pass.wrote n x wrote) last
at_stays {r = r} {s = s} {who = who} {other = other} {ms = ms} ok ok2 ne pass (walking x b name slot none is named) =
    walking x b name slot (holds_stays who other (Only (Passed b)) ne pass none) (walker_stays who other b slot ne pass is) (named_stays who b name pass named)
at_stays {r = r} {s = s} {who = who} {other = other} {ms = ms} ok ok2 ne pass (destroying x b name slot none is named) =
    destroying x b name slot (holds_stays who other (Only (Passed b)) ne pass none) (walker_stays who other b slot ne pass is) (named_stays who b name pass named)
at_stays {r = r} {s = s} {who = who} {other = other} {ms = ms} ok ok2 ne pass (count_tail g count none) =
    count_tail g count (holds_stays who other Nothing ne pass none)
at_stays {r = r} {s = s} {who = who} {other = other} {ms = ms} ok ok2 ne pass (count_head g t count none small low) =
    count_head g t count (holds_stays who other Nothing ne pass none) small (let g = tail_grows who pass in omega arith)
at_stays {r = r} {s = s} {who = who} {other = other} {ms = ms} ok ok2 ne pass (count_again g t h count none small seen) =
    count_again g t h count (holds_stays who other Nothing ne pass none) small (head_was_stays who (items_before (position_of h)) (items_before (position_of t)) ms (queue_of s) pass seen)
at_stays {r = r} {s = s} {who = who} {other = other} {ms = ms} ok ok2 ne pass (empty_head none) =
    empty_head (holds_stays who other Nothing ne pass none)
at_stays {r = r} {s = s} {who = who} {other = other} {ms = ms} ok ok2 ne pass (empty_tail h none small saw) =
    empty_tail h (holds_stays who other Nothing ne pass none) small (saw_empty_stays who (items_before (position_of h)) ms ok ok2 pass saw)
at_stays {r = r} {s = s} {who = who} {other = other} {ms = ms} ok ok2 ne pass (closing none) =
    closing (holds_stays who other Nothing ne pass none)
at_stays {r = r} {s = s} {who = who} {other = other} {ms = ms} ok ok2 ne pass (closed_tail none) =
    closed_tail (holds_stays who other Nothing ne pass none)
