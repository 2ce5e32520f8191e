-- The step by which a pop finds the queue empty, and those of the calls that look at a chain, and of its close.
use Rattle.std.proofs.Common.{ℕ, ◌+◌, ◌-◌, ◌*◌, ◌%◌, ◌≤◌, ◌≡◌, ◌≢◌, ◌==◌, ◌∙◌, ◌⊎◌, inl, inr, Bool, true, false, Some, None, List, [], ◌∷◌, length, refl, sym, ap, subst, arith}
use Rattle.std.proofs.lemmas.Bool.{ne_eqb, eq-eqb, Decides.eqb_tells}
use Rattle.queue_steps.specs.{State.State, Words.IsWord, Words.position_of, Words.is_shut, Words.tail_of, ChainWords.items_before, ChainNext.chain_next, Looks.call_of_look, Looks.reply_of_look, Looks.IsCount, declared.steps.chain.ChainLocal.ChainLocal as chain}
use Rattle.queue_steps.proofs.LookLaws.{reply_filled, reply_tells, reply_right, count_waits}
use Rattle.queue_laws.specs.{Common.Vocabulary.Call, Common.Vocabulary.Reply, Common.Vocabulary.Effect, Common.Vocabulary.Answer, Common.Vocabulary.Look, Common.Moments.SeenIn, Common.Moments.HeadWas, Common.Moments.HasItems, Chain.ChainCells.Chain, Chain.ChainCells.queue_of}
use Rattle.queue_laws.specs.Chain.{ChainCells.ChainOk, ChainCells.HoldsOnly, ChainCells.Nothing, ChainAt.count_tail, ChainAt.count_head, ChainAt.count_again, ChainAt.empty_tail, ChainAnswers.tail_word, ChainAnswers.tail_place, ChainAnswers.head_word}
use Rattle.queue_laws.proofs.{Common.Tails.shut_tail, Common.Moments.seen_map, Chain.ChainTransitions.mark_ok, Chain.ChainPasses.passes_marked, Chain.ChainStepOk.NextOk, Chain.ChainStepOk.StepOk, Chain.ChainStepOk.still}
use Rattle.queue_laws.proofs.Chain.ChainAnswers.{tail_items, tail_small, head_items, head_small}
use Rattle.queue_laws.specs.Chain.ChainTransitions as moves

pub good_closed_tail : {A : Type 0} (c : Chain A) (who : ℕ) (ms : List (State A)) → ChainOk c → HoldsOnly c who Nothing → StepOk c c who ms chain.ClosedTail None Call.IsClosed [] (Answer.Found (tail_word c))
good_closed_tail c who ms ok none =
    still c who ms chain.ClosedTail None Call.IsClosed [] (Answer.Found (tail_word c)) refl ok tt
    (none, tt, (Reply.IsClosed (is_shut (tail_word c)), refl, refl, λ e. inl (inl (shut_tail (tail_place c.tail c.mover) c.closed))))

pub good_count_tail : {A : Type 0} (c : Chain A) (who : ℕ) (ms : List (State A)) (g : Look) → ChainOk c → IsCount A g → HoldsOnly c who Nothing → StepOk c c who ms (chain.CountTail g) None (call_of_look g) [] (Answer.Found (tail_word c))
good_count_tail c who ms g ok count none =
    still c who ms (chain.CountTail g) None (call_of_look g) [] (Answer.Found (tail_word c)) refl ok tt (count_head g (tail_word c) count none (tail_small c ok) (let e = tail_items c ok in omega arith))

pub good_count_head : {A : Type 0} (c : Chain A) (who : ℕ) (ms : List (State A)) (g : Look) (t : ℕ) → ChainOk c → IsCount A g → HoldsOnly c who Nothing → IsWord t → items_before (position_of t) ≤ c.tail
    → StepOk c c who ms (chain.CountHead g t) None (call_of_look g) [] (Answer.Found (head_word c))
good_count_head c who ms g t ok count none small low =
    still c who ms (chain.CountHead g t) None (call_of_look g) [] (Answer.Found (head_word c)) refl ok tt
    (count_again g t (head_word c) count none (small, head_small c ok) (inl (refl, let e = head_items c ok in let n = ok.count in omega arith, low, omega arith)))

pub good_count_again : {A : Type 0} (c : Chain A) (who : ℕ) (ms : List (State A)) (g : Look) (t h : ℕ) → ChainOk c → IsCount A g → HoldsOnly c who Nothing → IsWord t × IsWord h → SeenIn ms (HeadWas None (items_before (position_of h)) (items_before (position_of t)) c.tail)
    → StepOk c c who ms (chain.CountAgain g t h) None (call_of_look g) [] (Answer.Found (tail_word c))
good_count_again {A} c who ms g t h ok count none small seen =
    still c who ms (chain.CountAgain g t h) None (call_of_look g) [] (Answer.Found (tail_word c)) refl ok (small.0, small.1, λ e. below ms e seen) (go (eqb_tells (tail_word c) t))
  where
    at : tail_word c ≡ t → items_before (position_of t) ≡ c.tail
    at e = ap (λ w. items_before (position_of w)) (sym e) ∙ tail_items c ok

    below : (ms : List (State A)) → tail_word c ≡ t → SeenIn ms (HeadWas None (items_before (position_of h)) (items_before (position_of t)) c.tail) → items_before (position_of h) ≤ items_before (position_of t)
    below [] e s = absurd s
    below (m ∷ ms) e (inl p) = let z = at e in let a = p.1 in let b = p.3 in omega arith
    below (m ∷ ms) e (inr s) = below ms e s

    go : (((tail_word c == t) ≡ true) × (tail_word c ≡ t)) ⊎ (((tail_word c == t) ≡ false) × (tail_word c ≢ t)) → NextOk c who (queue_of c ∷ ms) (chain_next (chain.CountAgain g t h) (Answer.Found (tail_word c))) None (call_of_look g) []
    go (inl e) =
        let many = items_before (position_of t) - items_before (position_of h) in
        let right = seen_map ms (λ m p. inl (reply_right m None many (is_shut t) g p.0 (let y = at e.1 in let a = p.1 in let b = p.2 in let d = p.3 in omega arith) (λ e. absurd (count_waits A g count e)))) seen in
        rw e.0 (none, tt, (reply_of_look None many (is_shut t) g, reply_filled A None many (is_shut t) g, reply_tells A None many (is_shut t) g, λ z. inr right))
    go (inr e) = rw e.0 (count_tail g count none)

pub good_empty_head : {A : Type 0} (c : Chain A) (who : ℕ) (ms : List (State A)) → ChainOk c → HoldsOnly c who Nothing → StepOk c c who ms chain.EmptyHead None Call.IsEmpty [] (Answer.Found (head_word c))
good_empty_head {A} c who ms ok none =
    still c who ms chain.EmptyHead None Call.IsEmpty [] (Answer.Found (head_word c)) refl ok tt
    (empty_tail (head_word c) none (head_small c ok) (tt, (let e = head_items c ok in omega arith), (subst (λ n. SeenIn (queue_of c ∷ ms) HasItems ⊎ (c.tail ≡ n)) (sym (head_items c ok)) (go (eqb_tells (length c.items) 0)))))
  where
    go : (((length c.items == 0) ≡ true) × (length c.items ≡ 0)) ⊎ (((length c.items == 0) ≡ false) × (length c.items ≢ 0)) → SeenIn (queue_of c ∷ ms) HasItems ⊎ (c.tail ≡ c.head)
    go (inl e) = inr (let n = ok.count in let z = e.1 in omega arith)
    go (inr e) = inl (inl (let z = e.1 in omega arith))

pub good_closing : {A : Type 0} (c : Chain A) (who : ℕ) (ms : List (State A)) → ChainOk c → HoldsOnly c who Nothing → StepOk c (moves.marked c) who ms chain.Closing None Call.Close [] (Answer.Found (tail_word c))
good_closing {A} c who ms ok none = go c.closed refl
  where
    go : (b : Bool) → c.closed ≡ b → StepOk c (moves.marked c) who ms chain.Closing None Call.Close [] (Answer.Found (tail_word c))
    go true shut = record {
      e = None;
      told = rw (shut_tail (tail_place c.tail c.mover) c.closed ∙ shut) refl;
      goes_on = tt;
      ok = mark_ok c ok;
      makes = ap (λ b. queue_of (record c { closed = b })) (sym shut);
      passes = passes_marked c who;
      goes = rw (ne_eqb (tail_word c % 2) 0 (λ z. absurd (let y = eq_shut shut in omega arith))) (none, tt, (Reply.Close false, refl, refl, λ e. inl (inl refl)));
    }
      where
        eq_shut : c.closed ≡ true → tail_word c ≡ tail_place c.tail c.mover * 2 + 1
        eq_shut e = ap (λ b. tail_of (tail_place c.tail c.mover) b) e
    go false opened = record {
      e = Some Effect.Close;
      told = rw (shut_tail (tail_place c.tail c.mover) c.closed ∙ opened) refl;
      goes_on = tt;
      ok = mark_ok c ok;
      makes = (opened, refl);
      passes = passes_marked c who;
      goes = rw (eq-eqb (tail_word c % 2) 0 (let y = eq_open opened in omega arith)) (none, tt, (Reply.Close true, refl, refl, λ e. cc));
    }
      where
        eq_open : c.closed ≡ false → tail_word c ≡ tail_place c.tail c.mover * 2
        eq_open e = ap (λ b. tail_of (tail_place c.tail c.mover) b) e
