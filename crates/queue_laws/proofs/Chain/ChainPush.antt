-- The steps of a push that read: the tail and the pushers' block, and the request for a block.
use Rattle.std.proofs.Common.{ℕ, ◌+◌, ◌-◌, ◌/◌, ◌%◌, ◌<◌, ◌≡◌, ◌≢◌, ◌==◌, ◌∙◌, ◌⊎◌, inl, inr, zero, suc, Bool, true, false, Option, Some, None, Err, List, [], ◌∷◌, refl, sym, ap, subst, arith}
use Rattle.std.proofs.lemmas.Bool.{ne_eqb, eq-eqb, Decides.eqb_tells}
use Rattle.queue_laws.specs.Common.Vocabulary.{Reply, PushError, ForcePushError, Word, Link, Op, Touch, Answer, Next, PushKind, LIMIT, BLOCK_SLOTS, MARK}
use Rattle.queue_steps.specs.{State.State, Replies.Tells, Replies.MayAsk, Replies.LacksMemory, Kinds.filled, Words.IsWord, Words.position_of, Words.is_shut, Words.tail_of, ChainWords.offset_of, ChainWords.items_before, RingNext.closed_reply, declared.steps.chain.ChainLocal.ChainLocal as chain}
use Rattle.queue_steps.specs.ChainNext.{at, loads, chain_tail_found, tail_block_found, gives_up, granted}
use Rattle.queue_laws.proofs.{Common.Tails.shut_tail, Common.Moments.seen_map, Common.Pushes.closed_push, Chain.ChainTransitions.no_block, Chain.ChainTransitions.rename_ok, Chain.ChainPasses.passes_same, Chain.ChainPassesLaying.passes_renamed, Chain.ChainAnswers.tail_items}
use Rattle.queue_laws.proofs.Chain.{ChainAnswers.tail_small, ChainAnswers.tail_is_resting, ChainAnswers.resting_word, ChainStepOk.NextOk, ChainStepOk.StepOk, ChainStepOk.still, ChainStepOk.silent, ChainStepOk.spare_gives}
use Rattle.queue_laws.specs.{Common.Pushes.pushes, Chain.ChainFacts.place, Chain.ChainFacts.open_tail_of, Chain.ChainFacts.TailIs, Chain.ChainFacts.TailBlockIs, Chain.ChainFacts.HasSpare, Chain.ChainFacts.SawTail, Chain.ChainFacts.WasOpenAt, Chain.ChainTransitions.renamed, Chain.ChainAt.IsLast}
use Rattle.queue_laws.specs.Chain.{ChainAt.Asks, ChainAt.push_tail, ChainAt.push_block, ChainAt.asking, ChainAt.installing, ChainAt.claiming, ChainAt.spending, ChainAnswers.tail_word, ChainAnswers.tail_place, ChainAnswers.last_of}
use Rattle.queue_laws.specs.Chain.ChainCells.{Rests, Spare, Unused, Chained, Chain, queue_of, BlocksOk, ChainOk, HoldsOnly, Nothing}

refused_push : {A : Type 0} (d : PushKind) (v : A) → (y : Reply A) × (filled (gives_up d) (Some v) ≡ Some y) × Tells (pushes d v) y [] × ((m : State A) → MayAsk m → LacksMemory m (pushes d v) y)
refused_push PushKind.Push v = (Reply.Push (Err (PushError.NoMemory v)), refl, (refl, refl), λ m may. (refl, may))
refused_push PushKind.Force v = (Reply.ForcePush (Err (ForcePushError.NoMemory v)), refl, (refl, refl), λ m may. (refl, may))

-- the ways on from a tail that a push found
pub tail_ways : (d : PushKind) (x : ℕ) (spare : Option ℕ) (P : Next ℕ → Type 0)
    → (is_shut x ≡ true → P (Next.Reply (closed_reply d) spare))
    → (is_shut x ≡ false → items_before (position_of x) ≡ LIMIT → P (at (chain.ClosingAtLimit d spare) Touch.Nothing (Op.Or Word.Tail MARK)))
    → (offset_of x ≡ BLOCK_SLOTS → P (loads (chain.PushTail d spare) Word.Tail))
    → (is_shut x ≡ false → items_before (position_of x) ≢ LIMIT → offset_of x ≢ BLOCK_SLOTS → P (at (chain.PushBlock d x spare) Touch.Nothing (Op.LoadLink Link.TailBlock)))
    → P (chain_tail_found d x spare)
tail_ways d x spare P shut spent again on = at_mark (is_shut x) refl
  where
    at_end : is_shut x ≡ false → items_before (position_of x) ≢ LIMIT → (((offset_of x == BLOCK_SLOTS) ≡ true) × (offset_of x ≡ BLOCK_SLOTS)) ⊎ (((offset_of x == BLOCK_SLOTS) ≡ false) × (offset_of x ≢ BLOCK_SLOTS)) → P (chain_tail_found d x spare)
    at_end f ne (inl e) = rw (f, ne_eqb (items_before (position_of x)) LIMIT ne, e.0) (again e.1)
    at_end f ne (inr e) = rw (f, ne_eqb (items_before (position_of x)) LIMIT ne, e.0) (on f ne e.1)

    at_limit : is_shut x ≡ false → (((items_before (position_of x) == LIMIT) ≡ true) × (items_before (position_of x) ≡ LIMIT)) ⊎ (((items_before (position_of x) == LIMIT) ≡ false) × (items_before (position_of x) ≢ LIMIT)) → P (chain_tail_found d x spare)
    at_limit f (inl e) = rw (f, e.0) (spent f e.1)
    at_limit f (inr e) = at_end f e.1 (eqb_tells (offset_of x) BLOCK_SLOTS)

    at_mark : (b : Bool) → is_shut x ≡ b → P (chain_tail_found d x spare)
    at_mark true e = rw e (shut e)
    at_mark false e = at_limit e (eqb_tells (items_before (position_of x)) LIMIT)

-- after a tail that a push found
pub tail_goes : {A : Type 0} (c : Chain A) (who : ℕ) (ms : List (State A)) (d : PushKind) (v : A) (spare : Option ℕ)
    → ChainOk c → HoldsOnly c who Nothing → HasSpare c who spare → NextOk c who (queue_of c ∷ ms) (chain_tail_found d (tail_word c) spare) (Some v) (pushes d v) []
tail_goes {A} c who ms d v spare ok none spare_is =
    tail_ways d (tail_word c) spare (λ x. NextOk c who (queue_of c ∷ ms) x (Some v) (pushes d v) [])
    (λ shut. let y = closed_push d v in (none, spare_gives c who spare spare_is, (y.0, y.1, y.2, λ e. inl (inl (y.4 (queue_of c) (sym is ∙ shut))))))
    (λ opened spent. spending d v spare none spare_is (let at = tail_items c ok in omega arith))
    (λ over. push_tail d v spare none spare_is)
    (λ opened ne inner.
    let rests = tail_is_resting c ok inner in
    let most = ok.most in
    let at = tail_items c ok in
    let unshut : c.closed ≡ false = sym is ∙ opened in
    let same : tail_word c ≡ open_tail_of c.tail = resting_word c rests ∙ ap (λ b. tail_of (place c.tail) b) unshut in
    let saw : SawTail c c.tail (queue_of c ∷ ms) = record { below = omega arith; is = inr (refl, rests); moment = inl (refl, unshut, refl) } in
    subst (λ x. NextOk c who (queue_of c ∷ ms) (at_block x) (Some v) (pushes d v) []) (sym same) (push_block d v spare c.tail none spare_is saw))
  where
    is : is_shut (tail_word c) ≡ c.closed
    is = shut_tail (tail_place c.tail c.mover) c.closed

    at_block : ℕ → Next ℕ
    at_block x = at (chain.PushBlock d x spare) Touch.Nothing (Op.LoadLink Link.TailBlock)

pub good_push_tail : {A : Type 0} (c : Chain A) (who : ℕ) (ms : List (State A)) (d : PushKind) (v : A) (spare : Option ℕ)
    → ChainOk c → HoldsOnly c who Nothing → HasSpare c who spare → StepOk c c who ms (chain.PushTail d spare) (Some v) (pushes d v) [] (Answer.Found (tail_word c))
good_push_tail c who ms d v spare ok none spare_is =
    still c who ms (chain.PushTail d spare) (Some v) (pushes d v) [] (Answer.Found (tail_word c)) refl ok (tail_small c ok) (tail_goes c who ms d v spare ok none spare_is)

pub open_small : {A : Type 0} (c : Chain A) (q : ℕ) (ms : List (State A)) → SawTail c q ms → IsWord (open_tail_of q)
open_small c q ms saw = let low = saw.below in omega arith

-- what a push saw it still knows after a step of its own
pub saw_own : {A : Type 0} (c : Chain A) (q : ℕ) (ms : List (State A)) (now : State A) → SawTail c q ms → SawTail c q (now ∷ ms)
saw_own c q ms now saw = record { below = saw.below; is = saw.is; moment = inr saw.moment }

-- the pushers' block is that of the tail, or the tail moved on
last_named : {A : Type 0} (c : Chain A) (q b : ℕ) → ChainOk c → TailIs c q → c.blocks ≡ suc b → TailBlockIs c q (c.names b)
last_named {A} c q b ok (inl lt) e = inl lt
last_named {A} c q b ok (inr (at, rests)) e = go (subst (λ m. BlocksOk c.tail c.blocks m) rests ok.laid)
  where
    go : BlocksOk c.tail c.blocks Rests → TailBlockIs c q (c.names b)
    go (inl h) = absurd (let z = h.1 in omega arith)
    go (inr h) = let is : b ≡ q / BLOCK_SLOTS = omega arith in inr ((omega arith), ap c.names is)

pub none_spare : {A : Type 0} (c : Chain A) (who : ℕ) (spare : Option ℕ) → c.blocks ≡ 0 → HasSpare c who spare → spare ≡ None
none_spare c who None none h = refl
none_spare c who (Some f) none h = absurd (let some = h.1 in omega arith)

pub good_push_block : {A : Type 0} (c : Chain A) (who : ℕ) (ms : List (State A)) (d : PushKind) (v : A) (spare : Option ℕ) (q : ℕ)
    → ChainOk c → HoldsOnly c who Nothing → HasSpare c who spare → SawTail c q ms → StepOk c c who ms (chain.PushBlock d (open_tail_of q) spare) (Some v) (pushes d v) [] (Answer.Linked (last_of c.names c.blocks))
good_push_block {A} c who ms d v spare q ok none spare_is saw = go c.blocks refl
  where
    with_block : (b : ℕ) (x : Option ℕ) → HasSpare c who x → c.blocks ≡ suc b → NextOk c who (queue_of c ∷ ms) (tail_block_found d (open_tail_of q) (Some (c.names b)) x) (Some v) (pushes d v) []
    with_block b (Some f) has e = claiming d v q (c.names b) (Some f) none has (saw_own c q ms (queue_of c) saw) (last_named c q b ok saw.is e) (λ last. refl)
    with_block b None has e = at_end (eqb_tells (offset_of (open_tail_of q) + 1) BLOCK_SLOTS)
      where
        at_end : (((offset_of (open_tail_of q) + 1 == BLOCK_SLOTS) ≡ true) × (offset_of (open_tail_of q) + 1 ≡ BLOCK_SLOTS)) ⊎ (((offset_of (open_tail_of q) + 1 == BLOCK_SLOTS) ≡ false) × (offset_of (open_tail_of q) + 1 ≢ BLOCK_SLOTS))
            → NextOk c who (queue_of c ∷ ms) (tail_block_found d (open_tail_of q) (Some (c.names b)) None) (Some v) (pushes d v) []
        at_end (inl t) = rw t.0 (asking d v q (Some (c.names b)) none (saw_own c q ms (queue_of c) saw) (let at = t.1 in omega arith, last_named c q b ok saw.is e))
        at_end (inr t) = rw t.0 (claiming d v q (c.names b) None none tt (saw_own c q ms (queue_of c) saw) (last_named c q b ok saw.is e) (λ last. absurd (t.1 (omega arith))))

    go : (n : ℕ) → c.blocks ≡ n → StepOk c c who ms (chain.PushBlock d (open_tail_of q) spare) (Some v) (pushes d v) [] (Answer.Linked (last_of c.names n))
    go zero e =
        let empty = no_block c ok e in
        let at : q ≡ 0 = elim saw.is [ inl lt ↦ absurd (let z = empty.1 in omega arith) | inr h ↦ (let z = empty.1 in let y = h.0 in omega arith) ] in
        still c who ms (chain.PushBlock d (open_tail_of q) spare) (Some v) (pushes d v) [] (Answer.Linked None) refl ok (open_small c q ms saw, λ _. none_spare c who spare e spare_is)
        (asking d v q None none (saw_own c q ms (queue_of c) saw) at)
    go (suc b) e =
        still c who ms (chain.PushBlock d (open_tail_of q) spare) (Some v) (pushes d v) [] (Answer.Linked (Some (c.names b))) refl ok (open_small c q ms saw, λ z. cc) (with_block b spare spare_is e)

-- U3, refused: one of the call's moments allows it
pub good_refused : {A : Type 0} (c : Chain A) (who : ℕ) (ms : List (State A)) (d : PushKind) (v : A) (q : ℕ) (block : Option ℕ)
    → ChainOk c → HoldsOnly c who Nothing → SawTail c q ms → Asks c q block → StepOk c c who ms (chain.Asking d (open_tail_of q) block) (Some v) (pushes d v) [] Answer.Refused
good_refused {A} c who ms d v q block ok none saw asked =
    let y = refused_push d v in
    still c who ms (chain.Asking d (open_tail_of q) block) (Some v) (pushes d v) [] Answer.Refused refl ok tt
    (none, tt, (y.0, y.1, y.2, λ e. inr (seen_map ms (λ m was. inr (y.3 m (was.0, was.1, allowed block asked m was))) saw.moment)))
  where
    allowed : (block : Option ℕ) → Asks c q block → (m : State A) → WasOpenAt q m → (m.accepted ≡ 0) ⊎ (m.accepted % BLOCK_SLOTS ≡ BLOCK_SLOTS - 1)
    allowed None h m was = inl (was.2 ∙ h)
    allowed (Some name) h m was = inr (let a = was.2 in let l = h.0 in omega arith)

-- U3, granted: a block that was nobody's is the call's
pub good_granted : {A : Type 0} (c : Chain A) (who : ℕ) (ms : List (State A)) (d : PushKind) (v : A) (q : ℕ) (block : Option ℕ) (f : ℕ)
    → ChainOk c → HoldsOnly c who Nothing → SawTail c q ms → Asks c q block → c.uses f ≡ Unused → StepOk c (renamed c f (Spare who)) who ms (chain.Asking d (open_tail_of q) block) (Some v) (pushes d v) [] (Answer.Granted f)
good_granted {A} c who ms d v q block f ok none saw asked unused =
    silent c s who ms (chain.Asking d (open_tail_of q) block) (Some v) (pushes d v) [] (Answer.Granted f) refl ok2 refl
    (passes_renamed c who f (Spare who) (λ other ne e. let z : Unused ≡ Spare other = sym unused ∙ e in cc) (λ other ne e. ne (let z : Spare who ≡ Spare other = e in cc)) (passes_same c who)) (open_small c q ms saw) (go block asked)
  where
    s : Chain A
    s = renamed c f (Spare who)

    ok2 : ChainOk (renamed c f (Spare who))
    ok2 = rename_ok c f (Spare who) ok (λ b e. let z : Unused ≡ Chained b = sym unused ∙ e in cc) (λ b e. let z : Spare who ≡ Chained b = e in cc)

    saw2 : SawTail (renamed c f (Spare who)) q (queue_of c ∷ ms)
    saw2 = record { below = saw.below; is = saw.is; moment = inr saw.moment }

    fresh : (renamed c f (Spare who)).uses f ≡ Spare who
    fresh = rw (eq-eqb f f refl) refl

    some : (name : ℕ) → TailBlockIs c q name → IsLast q → 0 < c.blocks
    some name (inl lt) last = elim (eqb_tells c.blocks 0) [ inl e ↦ absurd (let z = (no_block c ok e.1).1 in omega arith) | inr n ↦ let ne = n.1 in omega arith ]
    some name (inr named) last = let lt = named.0 in omega arith

    go : (block : Option ℕ) → Asks c q block → NextOk (renamed c f (Spare who)) who (queue_of c ∷ ms) (granted d (open_tail_of q) block f) (Some v) (pushes d v) []
    go None h = subst (λ n. NextOk (renamed c f (Spare who)) who (queue_of c ∷ ms) (granted d (open_tail_of n) None f) (Some v) (pushes d v) []) (sym h) (installing d v f none (subst (λ n. SawTail (renamed c f (Spare who)) n (queue_of c ∷ ms)) h saw2) fresh)
    go (Some name) h = claiming d v q name (Some f) none (fresh, some name h.1 h.0) saw2 h.1 (λ last. refl)
