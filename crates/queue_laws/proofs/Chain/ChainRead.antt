-- The steps of a pop that waits for its item and reads it.
use Rattle.queue_laws.specs.{Common.Vocabulary.Call, Common.Vocabulary.Reply, Common.Vocabulary.Effect, Common.Vocabulary.Answer, Common.Vocabulary.BLOCK_SLOTS, Chain.ChainTransitions.walk_after, Chain.ChainAnswers.IsState, Chain.ChainAnswers.is_wrote, Chain.ChainAnswers.waits_at}
use Rattle.queue_laws.specs.{Chain.ChainAfter.if_read, Common.Puts.put, Chain.ChainFacts.head_of, Chain.ChainFacts.Got, Chain.ChainAt.Only, Chain.ChainAt.IsLast, Chain.ChainAt.awaiting, Chain.ChainAt.reading, Chain.ChainAt.beginning}
use Rattle.std.proofs.lemmas.Bool.Decides.{eqb_tells}
use Rattle.queue_steps.specs.{State.State, declared.steps.chain.ChainLocal.ChainLocal as chain, ChainNext.written_found, ChainWords.offset_of}
use Rattle.queue_laws.proofs.Chain.{ChainStepOk.NextOk, ChainStepOk.StepOk, ChainStepOk.still, ChainStepOk.silent, ChainReads.read_ok, ChainReads.walk_read, ChainReads.own_item, ChainReads.walk_after_ok, ChainReads.walked_same, ChainPassesReads.passes_reads, ChainHolds.after_read}
use Rattle.queue_laws.proofs.{Chain.ChainHolds.after_read_on, Common.Puts.put_ok, Common.Puts.put_same, Chain.ChainAnswers.head_offset, Chain.ChainWalk.after_mine, Chain.ChainWalk.on_goes}
use Rattle.std.proofs.Common.{ℕ, ◌+◌, ◌/◌, ◌%◌, ◌<◌, ◌≡◌, ◌≢◌, ◌==◌, not, ◌∙◌, ◌⊎◌, inl, inr, Bool, true, false, if◌then◌else◌, Some, None, Ok, List, [], ◌∷◌, refl, sym, ap, subst, arith, bit_and}
use Rattle.queue_laws.specs.Chain.ChainCells.{Writer, Wrote, Reading, Done, Walk, Waits, Chain, queue_of, value, WalkOk, item_at, LAST, ChainOk, Read, Passed, walker_of, HoldsOnly}
use Rattle.queue_laws.specs.Chain.ChainTransitions as moves

wrote_is : {A : Type 0} (w : Writer A) (x : A) → value w ≡ Some x → is_wrote w ≡ true → w ≡ Wrote x
wrote_is (Wrote v) x e t = ap (λ y. Wrote y) (cc)
wrote_is w x e t = cc

-- V9: the slot's state is read, until its item is written
pub good_awaiting : {A : Type 0} (c : Chain A) (who : ℕ) (ms : List (State A)) (x : A) (n name : ℕ) (more : Bool) (st : ℕ)
    → ChainOk c → HoldsOnly c who (Only (Read n)) → Got c who n x name → IsState c (n / BLOCK_SLOTS) (n % BLOCK_SLOTS) st
    → StepOk c c who ms (chain.Awaiting (head_of n more) name) None Call.Pop (Effect.Take x ∷ []) (Answer.Found st)
good_awaiting {A} c who ms x n name more st ok holds got state = go (is_wrote (c.writers n)) refl
  where
    written : (bit_and st 1 == 0) ≡ not (is_wrote (c.writers n))
    written = state.written ∙ ap (λ m. not (is_wrote (c.writers m))) (own_item n)

    last : is_wrote (c.writers n) ≡ true → (((offset_of (head_of n more) + 1 == BLOCK_SLOTS) ≡ true) × (offset_of (head_of n more) + 1 ≡ BLOCK_SLOTS)) ⊎ (((offset_of (head_of n more) + 1 == BLOCK_SLOTS) ≡ false) × (offset_of (head_of n more) + 1 ≢ BLOCK_SLOTS))
        → NextOk c who (queue_of c ∷ ms) (written_found (head_of n more) name st) None Call.Pop (Effect.Take x ∷ [])
    last t (inl e) = rw (written ∙ ap not t, e.0) (beginning x n name more holds got (wrote_is (c.writers n) x got.item t) (let o = head_offset n more in let l = e.1 in omega arith))
    last t (inr e) = rw (written ∙ ap not t, e.0) (reading x n name more holds got (wrote_is (c.writers n) x got.item t) (λ l. e.1 (let o = head_offset n more in omega arith)))

    go : (t : Bool) → is_wrote (c.writers n) ≡ t → StepOk c c who ms (chain.Awaiting (head_of n more) name) None Call.Pop (Effect.Take x ∷ []) (Answer.Found st)
    go false t = still c who ms (chain.Awaiting (head_of n more) name) None Call.Pop (Effect.Take x ∷ []) (Answer.Found st) refl ok tt (rw (written ∙ ap not t) (awaiting x n name more holds got))
    go true t = still c who ms (chain.Awaiting (head_of n more) name) None Call.Pop (Effect.Take x ∷ []) (Answer.Found st) refl ok tt (last t (eqb_tells (offset_of (head_of n more) + 1) BLOCK_SLOTS))

pub waits_is : (w : Walk) (slot : ℕ) → waits_at w slot ≡ true → w ≡ Waits slot
waits_is (Waits i) slot e = elim (eqb_tells i slot) [ inl t ↦ ap (λ j. Waits j) t.1 | inr t ↦ (let z : false ≡ true = sym t.0 ∙ e in cc) ]
waits_is w slot e = cc

not_waits : (w : Walk) (slot i : ℕ) → waits_at w slot ≡ false → w ≡ Waits i → i ≢ slot
not_waits w slot i e is same = let z : waits_at (Waits slot) slot ≡ false = subst (λ j. waits_at (Waits j) slot ≡ false) same (subst (λ y. waits_at y slot ≡ false) is e) in
    elim (eqb_tells slot slot) [ inl t ↦ (let y : true ≡ false = sym t.0 ∙ z in cc) | inr t ↦ t.1 refl ]

-- V10: the item is read, in the middle of a block
pub good_reading : {A : Type 0} (c : Chain A) (who : ℕ) (ms : List (State A)) (x : A) (n name i st : ℕ)
    → ChainOk c → HoldsOnly c who (Only (Read n)) → Got c who n x name → c.writers n ≡ Wrote x → (IsLast n → ⊥) → i ≡ n % BLOCK_SLOTS → IsState c (n / BLOCK_SLOTS) i st
    → StepOk c (if_read c who n i) who ms (chain.Reading name i) (Some x) Call.Pop (Effect.Take x ∷ []) (Answer.Found st)
good_reading {A} c who ms x n name i st ok holds got wrote inner is state = go (waits_at (c.walks (n / BLOCK_SLOTS)) i) refl
  where
    item : item_at (n / BLOCK_SLOTS) i ≡ n
    item = ap (λ j. item_at (n / BLOCK_SLOTS) j) is ∙ own_item n

    unread : c.readers (item_at (n / BLOCK_SLOTS) i) ≢ Done
    unread e = let z : Reading who ≡ Done = sym got.mine ∙ (ap c.readers (sym item) ∙ e) in cc

    tested : (bit_and st 4 == 0) ≡ not (waits_at (c.walks (n / BLOCK_SLOTS)) i)
    tested = state.destroyed unread

    low : i < LAST
    low = omega (arith, is, inner)

    go : (t : Bool) → waits_at (c.walks (n / BLOCK_SLOTS)) i ≡ t → StepOk c (moves.reads c n (if t then walk_after who i else c.walks (n / BLOCK_SLOTS))) who ms (chain.Reading name i) (Some x) Call.Pop (Effect.Take x ∷ []) (Answer.Found st)
    go false t =
        let kept : WalkOk (put c.readers n Done) (n / BLOCK_SLOTS) (c.walks (n / BLOCK_SLOTS)) =
        walk_read c.readers n (n / BLOCK_SLOTS) (c.walks (n / BLOCK_SLOTS)) (λ e z. inner (omega (arith, z))) (λ j e z. not_waits (c.walks (n / BLOCK_SLOTS)) i j t e (let y = item in omega (arith, z, y))) (ok.walk (n / BLOCK_SLOTS)) in
        silent c (moves.reads c n (c.walks (n / BLOCK_SLOTS))) who ms (chain.Reading name i) (Some x) Call.Pop (Effect.Take x ∷ []) (Answer.Found st) refl
        (read_ok c who n x (c.walks (n / BLOCK_SLOTS)) ok got.mine wrote kept) refl (passes_reads c who n (c.walks (n / BLOCK_SLOTS)) got.mine (λ other ne z. refl) (λ other ne z. z)) (let l = low in omega arith)
        (rw (tested ∙ ap not t) (after_read c who n (c.walks (n / BLOCK_SLOTS)) (λ z. let y = holds (Passed (n / BLOCK_SLOTS)) z in cc) holds, tt, (Reply.Pop (Ok x), refl, refl, λ z. cc)))
    go true t =
        let at = waits_is (c.walks (n / BLOCK_SLOTS)) i t in
        let waiting : WalkOk c.readers (n / BLOCK_SLOTS) (Waits i) = subst (λ w. WalkOk c.readers (n / BLOCK_SLOTS) w) at (ok.walk (n / BLOCK_SLOTS)) in
        let keeps : (j : ℕ) → c.readers j ≡ Done → put c.readers n Done j ≡ Done = λ j. put_ok c.readers n j Done (λ k r. c.readers k ≡ Done → r ≡ Done) (λ e. refl) (λ ne e. e) in
        let next_ok : WalkOk (put c.readers n Done) (n / BLOCK_SLOTS) (walk_after who i) =
        walk_after_ok (put c.readers n Done) (n / BLOCK_SLOTS) who i low (walked_same c.readers (put c.readers n Done) (n / BLOCK_SLOTS) i keeps waiting.1) (ap (put c.readers n Done) item ∙ put_same c.readers n Done) in
        silent c (moves.reads c n (walk_after who i)) who ms (chain.Reading name i) (Some x) Call.Pop (Effect.Take x ∷ []) (Answer.Found st) refl
        (read_ok c who n x (walk_after who i) ok got.mine wrote next_ok) refl
        (passes_reads c who n (walk_after who i) got.mine (λ other ne z. let y : None ≡ Some other = ap walker_of (sym at) ∙ z in cc) (λ other ne z. absurd (after_mine who other i ne z))) (let l = low in omega arith)
        (rw (tested ∙ ap not t) (on_goes (moves.reads c n (walk_after who i)) who (queue_of c ∷ ms) x (n / BLOCK_SLOTS) name i low got.named (put_same c.walks (n / BLOCK_SLOTS) (walk_after who i))
        (λ e. after_read c who n (walk_after who i) (λ z. let y : None ≡ Some who = ap walker_of (sym e) ∙ z in cc) holds) (after_read_on c who n (walk_after who i) holds)))
