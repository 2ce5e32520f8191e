-- The step by which a pop finds the queue empty, or that it is not.
use Rattle.std.proofs.Common.{ℕ, ◌+◌, ◌<◌, ◌≡◌, ◌≢◌, ◌==◌, ◌∙◌, ◌⊎◌, inl, inr, Bool, true, false, if◌then◌else◌, Option, Some, None, Err, List, [], ◌∷◌, refl, sym, ap, subst, arith}
use Rattle.std.proofs.lemmas.Bool.Decides.{eqb_tells}
use Rattle.queue_steps.specs.{State.State, Words.position_of, ChainWords.block_at, ChainWords.items_before, ChainNext.ends, ChainNext.chain_next, declared.steps.chain.ChainLocal.ChainLocal as chain}
use Rattle.queue_laws.specs.{Common.Vocabulary.Call, Common.Vocabulary.Reply, Common.Vocabulary.PopError, Common.Vocabulary.Answer, Common.Vocabulary.TAIL_STEP, Chain.ChainFacts.place, Chain.ChainFacts.head_of, Chain.ChainFacts.HeadIs, Chain.ChainFacts.HeadBlockIs, Chain.ChainFacts.HeadBlockRead}
use Rattle.queue_laws.specs.Chain.{ChainAt.pop_head, ChainAt.taking, ChainAnswers.tail_word, ChainAnswers.tail_place}
use Rattle.queue_laws.proofs.{Common.Lists.none_left, Common.Tails.position_tail, Common.Tails.shut_tail, Chain.ChainAnswers.tail_items, Chain.ChainStepOk.NextOk, Chain.ChainStepOk.StepOk, Chain.ChainStepOk.still, Chain.ChainPop.read_small, Chain.ChainPop.head_low}
use Rattle.queue_laws.specs.Chain.ChainCells.{Mover, Rests, Laying, Opening, Stands, Seen, Chain, queue_of, BlocksOk, FrontOk, ShownOk, ChainOk, HoldsOnly, Nothing}

-- a tail at another position than the head that was read is beyond it
pub beyond : {A : Type 0} (c : Chain A) (n : ℕ) → ChainOk c → HeadIs c n → c.shown ≡ Seen → position_of (tail_word c) ≢ place n → n < c.tail
beyond c n ok (inl lt) shown ne = let e = ok.count in omega arith
beyond {A} c n ok (inr (at_n, stands)) shown ne = go (eqb_tells c.tail n)
  where
    front : FrontOk c.head c.front Stands
    front = subst (λ p. FrontOk c.head c.front p) stands ok.fronted

    low : ShownOk c.blocks c.head c.front c.known c.passer Seen
    low = subst (λ s. ShownOk c.blocks c.head c.front c.known c.passer s) shown ok.seen

    never : (m : Mover) → c.mover ≡ m → BlocksOk c.tail c.blocks m → c.tail ≡ n → ⊥
    never Rests is h e = ne (position_tail (tail_place c.tail c.mover) c.closed ∙ (ap (λ m. tail_place c.tail m) is ∙ ap place e))
    never (Laying p) is h e = absurd (let f = front in let l = low in let full = h.1 in omega arith)
    never (Opening p) is h e = absurd (let f = front in let l = ok.reaches p is in let full = h.1 in omega arith)

    go : (((c.tail == n) ≡ true) × (c.tail ≡ n)) ⊎ (((c.tail == n) ≡ false) × (c.tail ≢ n)) → n < c.tail
    go (inl e) = absurd (never c.mover refl ok.laid e.1)
    go (inr e) = let z = e.1 in let k = ok.count in omega arith

-- V3: the tail is read after that head
pub good_pop_tail : {A : Type 0} (c : Chain A) (who : ℕ) (ms : List (State A)) (n : ℕ) (block : Option ℕ)
    → ChainOk c → HoldsOnly c who Nothing → HeadIs c n → HeadBlockRead c n block → StepOk c c who ms (chain.PopTail (head_of n false) block) None Call.Pop [] (Answer.Found (tail_word c))
good_pop_tail {A} c who ms n block ok none is front =
    still c who ms (chain.PopTail (head_of n false) block) None Call.Pop [] (Answer.Found (tail_word c)) refl ok (read_small c n false ok is) (go block front (eqb_tells (position_of (tail_word c)) (position_of (head_of n false))))
  where
    at_place : position_of (head_of n false) ≡ place n
    at_place = omega arith

    empty : position_of (tail_word c) ≡ position_of (head_of n false) → c.items ≡ []
    empty e =
        let at : c.tail ≡ n = sym (tail_items c ok) ∙ (ap items_before (e ∙ at_place) ∙ (let z : items_before (place n) ≡ n = omega arith in z)) in
        let low = head_low c n ok is in
        let count = ok.count in
        none_left c.items (omega arith)

    ends_with : (b : Bool) → c.closed ≡ b → c.items ≡ [] → NextOk c who (queue_of c ∷ ms) (ends (Reply.Pop (Err (if b then PopError.Closed else PopError.Empty)))) None Call.Pop []
    ends_with true shut e = (none, tt, (Reply.Pop (Err PopError.Closed), refl, refl, λ z. inl (inl (e, refl, shut))))
    ends_with false opened e = (none, tt, (Reply.Pop (Err PopError.Empty), refl, refl, λ z. inl (inl (e, refl, opened))))

    on : (name : ℕ) → HeadBlockIs c n name → position_of (tail_word c) ≢ position_of (head_of n false)
        → (((block_at (position_of (tail_word c)) == block_at (position_of (head_of n false))) ≡ true) × (block_at (position_of (tail_word c)) ≡ block_at (position_of (head_of n false))))
        ⊎ (((block_at (position_of (tail_word c)) == block_at (position_of (head_of n false))) ≡ false) × (block_at (position_of (tail_word c)) ≢ block_at (position_of (head_of n false))))
        → ((position_of (tail_word c) == position_of (head_of n false)) ≡ false) → NextOk c who (queue_of c ∷ ms) (chain_next (chain.PopTail (head_of n false) (Some name)) (Answer.Found (tail_word c))) None Call.Pop []
    on name named ne (inl b) test =
        rw (test, b.0) (taking n name (head_of n false + TAIL_STEP) false false none is named (beyond c n ok is named.0 (λ z. ne (z ∙ sym at_place))) (omega arith) (λ z. cc))
    on name named ne (inr b) test =
        let lt = beyond c n ok is named.0 (λ z. ne (z ∙ sym at_place)) in
        let items = tail_items c ok in
        let other = b.1 in
        rw (test, b.0) (taking n name (head_of n false + TAIL_STEP + 1) false true none is named lt (omega arith) (λ z. (named.0, omega arith)))

    go : (block : Option ℕ) → HeadBlockRead c n block
        → (((position_of (tail_word c) == position_of (head_of n false)) ≡ true) × (position_of (tail_word c) ≡ position_of (head_of n false)))
        ⊎ (((position_of (tail_word c) == position_of (head_of n false)) ≡ false) × (position_of (tail_word c) ≢ position_of (head_of n false)))
        → NextOk c who (queue_of c ∷ ms) (chain_next (chain.PopTail (head_of n false) block) (Answer.Found (tail_word c))) None Call.Pop []
    go x h (inl e) = rw e.0 (subst (λ b. NextOk c who (queue_of c ∷ ms) (ends (Reply.Pop (Err (if b then PopError.Closed else PopError.Empty)))) None Call.Pop []) (sym (shut_tail (tail_place c.tail c.mover) c.closed)) (ends_with c.closed refl (empty e.1)))
    go None h (inr e) = rw e.0 (pop_head none)
    go (Some name) h (inr e) = on name h e.1 (eqb_tells (block_at (position_of (tail_word c))) (block_at (position_of (head_of n false)))) e.0
