-- The steps of a push have fewer steps before them, one after another, while nobody hinders it.
use Rattle.std.proofs.Common.{ℕ, ◌+◌, ◌%◌, ◌<◌, ◌≡◌, ◌≢◌, ◌==◌, ◌∙◌, zero, suc, inl, inr, Bool, true, false, if◌then◌else◌, Option, Some, None, refl, sym, ap, arith}
use Rattle.std.proofs.lemmas.Bool.{ne_eqb, eq-eqb}
use Rattle.queue_laws.specs.{Common.Vocabulary.Local, Common.Vocabulary.PushKind, Common.Vocabulary.BLOCK_SLOTS, Chain.ChainAt.Only, Chain.ChainAnswers.tail_place, Chain.ChainAnswers.tail_word, Chain.ChainAnswers.last_of, Chain.ChainAfter.if_installed, Chain.ChainAfter.claimed_if}
use Rattle.queue_laws.specs.Chain.{ChainFacts.place, ChainFacts.open_tail_of, ChainFacts.TailIs, ChainFacts.HasSpare, ChainTransitions.displayed, ChainTransitions.installed, ChainTransitions.renamed}
use Rattle.queue_laws.specs.Chain.ChainCells.{Rests, Spare, Chain, ChainOk, Part, Tail, First, HoldsOnly}
use Rattle.queue_steps.specs.{Words.is_shut, Words.position_of, Words.tail_of, ChainWords.items_before, ChainWords.offset_at, ChainWords.offset_of, declared.steps.chain.ChainLocal.ChainLocal as chain}
use Rattle.queue_steps.specs.ChainNext.{chain_tail_found, tail_block_found, asks, claims, lays, writes, is_last_slot}
use Rattle.queue_steps.specs.ChainNext as steps
use Rattle.queue_laws.proofs.{Common.Tails.position_tail, Common.Tails.shut_tail, Chain.ChainPlaces.place_offset, Chain.ChainAnswers.resting_word, Chain.ChainAnswers.tail_items, Chain.ChainPush.tail_ways, Chain.ChainTransitions.no_block}
use Rattle.queue_laws.proofs.Chain.ChainRanks.{lag, lag_none, lag_small, late, rank, Falls, IsBare, unheld, rests_if}

-- nobody moves the tail
pub rests : {A : Type 0} (c : Chain A) (who : ℕ) (P : Part → Type 0) → IsBare c who → HoldsOnly c who P → (P Tail → ⊥) → c.mover ≡ Rests
rests c who P bare holds none = rests_if c.mover (unheld c who P (Only First) Tail bare holds none (λ z. absurd (cc)))

-- a tail that rests has a slot
resting_slot : {A : Type 0} (c : Chain A) → c.mover ≡ Rests → offset_of (tail_word c) ≢ BLOCK_SLOTS
resting_slot c rest e =
    let at : position_of (tail_word c) ≡ place c.tail = ap position_of (resting_word c rest) ∙ position_tail (place c.tail) c.closed in
    let z : c.tail % BLOCK_SLOTS ≡ BLOCK_SLOTS = sym (place_offset c.tail) ∙ (ap offset_at (sym at) ∙ e) in
    absurd (omega (arith, z))

-- where there is no block the tail is at its first place
pub first_place : {A : Type 0} (c : Chain A) → ChainOk c → c.blocks ≡ 0 → position_of (tail_word c) ≡ 0
first_place c ok none = let empty = no_block c ok none in ap position_of (resting_word c empty.0) ∙ (position_tail (place c.tail) c.closed ∙ ap place empty.1)

-- and there it has accepted nothing
pub nothing_yet : {A : Type 0} (c : Chain A) → ChainOk c → position_of (tail_word c) ≡ 0 → c.tail ≡ 0
nothing_yet c ok first = sym (tail_items c ok) ∙ ap items_before first

-- after a tail that a push found
tail_falls : {A : Type 0} (c : Chain A) (d : PushKind) (spare : Option ℕ) (n : ℕ) → (is_shut (tail_word c) ≡ false → 9 + late (tail_word c) spare < n) → c.mover ≡ Rests
    → Falls c (chain_tail_found d (tail_word c) spare) n
tail_falls c d spare n lt rest =
    tail_ways d (tail_word c) spare (λ x. Falls c x n) (λ shut. tt) (λ opened spent. let l = lt opened in omega (arith, l)) (λ over. absurd (resting_slot c rest over))
    (λ opened ne inner. lag_none (tail_word c) (9 + late (tail_word c) spare) 5 n (lt opened))

-- U1: the tail is read
pub push_tail_falls : {A : Type 0} (c : Chain A) (d : PushKind) (spare : Option ℕ) → c.mover ≡ Rests → Falls c (chain_tail_found d (tail_word c) spare) (10 + late (tail_word c) spare)
push_tail_falls c d spare rest = tail_falls c d spare (10 + late (tail_word c) spare) (λ opened. omega arith) rest

-- U2: the pushers' block is read
pub push_block_falls : {A : Type 0} (c : Chain A) (who : ℕ) (d : PushKind) (tail : ℕ) (spare : Option ℕ) → ChainOk c → HasSpare c who spare
    → Falls c (tail_block_found d tail (last_of c.names c.blocks) spare) (9 + late (tail_word c) spare + lag (tail_word c) tail 5)
push_block_falls {A} c who d tail spare ok has = go c.blocks spare refl has
  where
    go : (n : ℕ) (x : Option ℕ) → c.blocks ≡ n → HasSpare c who x → Falls c (tail_block_found d tail (last_of c.names n) x) (9 + late (tail_word c) x + lag (tail_word c) tail 5)
    go zero None none has = let six : late (tail_word c) None ≡ 6 = rw (eq-eqb (position_of (tail_word c)) 0 (first_place c ok none)) refl in omega (arith, six)
    go zero (Some f) none has = let some = has.1 in absurd (omega (arith, some, none))
    go (suc b) (Some f) more has = omega arith
    go (suc b) None more has =
        elim (is_last_slot tail)
        as (λ z. Falls c (if z then asks d tail (Some (c.names b)) else claims d tail (c.names b) None) (9 + late (tail_word c) None + lag (tail_word c) tail 5)) [ true ↦ omega arith | false ↦ omega arith ]

-- U3: a block is asked for and granted
pub granted_falls : {A : Type 0} (c : Chain A) (who : ℕ) (d : PushKind) (tail : ℕ) (block : Option ℕ) (f : ℕ) → Falls (renamed c f (Spare who)) (steps.granted d tail block f) (rank c (Local.Chain (chain.Asking d tail block)))
granted_falls c who d tail None f = omega arith
granted_falls c who d tail (Some block) f = omega arith

-- U4: the first block is installed
pub installing_falls : {A : Type 0} (c : Chain A) (who : ℕ) (d : PushKind) (tail f blocks : ℕ) → Falls (if_installed c who f blocks) (steps.installed d tail f (last_of c.names blocks)) 12
installing_falls c who d tail f zero = let low = lag_small (tail_word (installed c who f)) tail 5 in omega (arith, low)
installing_falls c who d tail f (suc b) = omega arith

-- U4b: the first block is shown to the poppers
pub showing_falls : {A : Type 0} (c : Chain A) (d : PushKind) (tail name : ℕ) → Falls (displayed c) (claims d tail name None) (6 + lag (tail_word c) tail 5)
showing_falls c d tail name = omega arith

-- U5: the tail is exchanged, and was as it was read
won_falls : {A : Type 0} (s : Chain A) (d : PushKind) (tail name : ℕ) (spare : Option ℕ) → Falls s (steps.claimed d tail name spare) 5
won_falls {A} s d tail name spare = elim (is_last_slot tail) as (λ b. Falls s (if b then lays d tail name spare else writes d tail name spare) 5) [ true ↦ laid spare | false ↦ omega arith ]
  where
    laid : (x : Option ℕ) → Falls s (lays d tail name x) 5
    laid None = omega arith
    laid (Some f) = omega arith

-- a tail that was read at q, and is another one of an open queue, has moved on
moved_on : {A : Type 0} (c : Chain A) (q : ℕ) → TailIs c q → is_shut (tail_word c) ≡ false → tail_word c ≢ open_tail_of q → q < c.tail
moved_on c q (inl lt) opened other = lt
moved_on c q (inr (is, rests)) opened other =
    let unshut : c.closed ≡ false = sym (shut_tail (tail_place c.tail c.mover) c.closed) ∙ opened in
    absurd (other (resting_word c rests ∙ (ap (λ b. tail_of (place c.tail) b) unshut ∙ ap open_tail_of is)))

-- so it is past its first place
past_first : {A : Type 0} (c : Chain A) (q : ℕ) (spare : Option ℕ) → ChainOk c → TailIs c q → is_shut (tail_word c) ≡ false → tail_word c ≢ open_tail_of q → late (tail_word c) spare ≡ 0
past_first c q None ok is opened other =
    let lt = moved_on c q is opened other in
    rw (ne_eqb (position_of (tail_word c)) 0 (λ z. let none = nothing_yet c ok z in omega (arith, lt, none))) refl
past_first c q (Some f) ok is opened other = refl

-- U5: the tail is exchanged, by which an item is appended, or is another one by now
pub claiming_falls : {A : Type 0} (c : Chain A) (who : ℕ) (d : PushKind) (v : A) (q name : ℕ) (spare : Option ℕ) (last b : Bool) → (tail_word c == open_tail_of q) ≡ b → ChainOk c → TailIs c q → c.mover ≡ Rests
    → Falls (claimed_if c who v b last) (if b then steps.claimed d (open_tail_of q) name spare else chain_tail_found d (tail_word c) spare) (5 + (if b then 0 else 5))
claiming_falls c who d v q name spare last true e ok is rest = won_falls (claimed_if c who v true last) d (open_tail_of q) name spare
claiming_falls c who d v q name spare last false e ok is rest =
    let other : tail_word c ≢ open_tail_of q = λ same. (let z : true ≡ false = sym (eq-eqb (tail_word c) (open_tail_of q) same) ∙ e in cc) in
    tail_falls c d spare 10 (λ opened. let none = past_first c q spare ok is opened other in omega (arith, none)) rest
