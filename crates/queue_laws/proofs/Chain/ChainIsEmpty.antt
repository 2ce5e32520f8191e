-- The step by which `is_empty` replies.
use Rattle.std.proofs.Common.{ℕ, ◌<◌, ◌≡◌, ◌≢◌, ◌==◌, ◌∙◌, ◌⊎◌, inl, inr, true, false, None, List, [], ◌∷◌, length, refl, sym, ap, arith}
use Rattle.std.proofs.lemmas.Bool.Decides.{eqb_tells}
use Rattle.queue_steps.specs.{State.State, Replies.is_empty, Words.IsWord, Words.position_of, ChainWords.items_before, ChainWords.over_end, ChainWords.offset_at, ChainNext.chain_next, declared.steps.chain.ChainLocal.ChainLocal as chain}
use Rattle.queue_laws.specs.{Common.Vocabulary.Call, Common.Vocabulary.Reply, Common.Vocabulary.Answer, Common.Vocabulary.BLOCK_SLOTS, Chain.ChainFacts.place, Chain.ChainFacts.SawEmpty, Chain.ChainAnswers.tail_word}
use Rattle.queue_laws.specs.Chain.ChainCells.{Chain, queue_of, ChainOk, HoldsOnly, Nothing}
use Rattle.queue_laws.proofs.{Common.Moments.seen_map, Chain.ChainAnswers.tail_items, Chain.ChainAnswers.tail_small, Chain.ChainStepOk.NextOk, Chain.ChainStepOk.StepOk, Chain.ChainStepOk.still}

-- a settled position is that of its items
settled_place : (p : ℕ) → over_end p ≡ place (items_before p)
settled_place p = elim (eqb_tells (offset_at p) BLOCK_SLOTS) [ inl t ↦ rw t.0 (let e = t.1 in omega arith) | inr t ↦ rw t.0 (let e = t.1 in omega arith) ]

none_is : {A : Type 0} (xs : List A) → length xs ≡ 0 → true ≡ is_empty xs
none_is [] e = refl
none_is (x ∷ xs) e = absurd (omega arith)

some_is : {A : Type 0} (xs : List A) → 0 < length xs → false ≡ is_empty xs
some_is [] e = absurd (omega arith)
some_is (x ∷ xs) e = refl

pub good_empty_tail : {A : Type 0} (c : Chain A) (who : ℕ) (ms : List (State A)) (h : ℕ) → ChainOk c → HoldsOnly c who Nothing → IsWord h → SawEmpty (items_before (position_of h)) c ms
    → StepOk c c who ms (chain.EmptyTail h) None Call.IsEmpty [] (Answer.Found (tail_word c))
good_empty_tail {A} c who ms h ok none small saw =
    still c who ms (chain.EmptyTail h) None Call.IsEmpty [] (Answer.Found (tail_word c)) refl ok (small, tail_small c ok) (go (eqb_tells (over_end (position_of (tail_word c))) (over_end (position_of h))))
  where
    go : (((over_end (position_of (tail_word c)) == over_end (position_of h)) ≡ true) × (over_end (position_of (tail_word c)) ≡ over_end (position_of h)))
        ⊎ (((over_end (position_of (tail_word c)) == over_end (position_of h)) ≡ false) × (over_end (position_of (tail_word c)) ≢ over_end (position_of h)))
        → NextOk c who (queue_of c ∷ ms) (chain_next (chain.EmptyTail h) (Answer.Found (tail_word c))) None Call.IsEmpty []
    go (inl e) =
        let same : place c.tail ≡ place (items_before (position_of h)) = ap place (sym (tail_items c ok)) ∙ (sym (settled_place (position_of (tail_word c))) ∙ (e.1 ∙ settled_place (position_of h))) in
        let low = saw.1 in
        let count = ok.count in
        rw e.0 (none, tt, (Reply.IsEmpty true, refl, refl, λ z. inl (inl (none_is c.items (omega arith)))))
    go (inr e) =
        let never : c.tail ≢ items_before (position_of h) = λ z. e.1 (settled_place (position_of (tail_word c)) ∙ (ap place (tail_items c ok ∙ z) ∙ sym (settled_place (position_of h)))) in
        rw e.0 (none, tt, (Reply.IsEmpty false, refl, refl, λ z. inr (elim saw.2 [ inl seen ↦ seen_map ms (λ m some. inl (some_is m.items some)) seen | inr at ↦ absurd (never at) ])))
