-- Every call on a chain of blocks ends with its reply.
use Rattle.std.specs.Prelude.{◌==◌}
use Rattle.std.proofs.Common.{◌≡◌, ℕ, ◌-◌, ◌%◌, ◌<◌, Bool, true, false, List, [], ◌∷◌, length, Option, None, refl, arith, ap}
use Rattle.queue_steps.specs.declared.{sizes.TheConstants.BLOCK_SLOTS, sizes.TheConstants.STEPS_ALONE, model.Call.Call, model.Call.Call as call, model.Reply.Reply as reply}
use Rattle.queue_steps.specs.declared.steps.{types.Answer.Answer as answer, types.Op.Op, types.Op.Op as op, types.Word.Word as word, types.Touch.Touch as touch, ring.TheConstants.MARK, ring.PushKind.PushKind as push_kind, chain.ChainLocal.ChainLocal as chain, looks.Look.Look}
use Rattle.queue_steps.specs.{Looks.call_of_look, Looks.reply_of_look, Replies.is_empty, Words.position_of, Words.is_shut, ChainNext.loads, ChainNext.ends, ChainWords.offset_at, ChainWords.over_end}
use Rattle.queue_steps.proofs.LookLaws.{reply_filled, reply_table}
use Rattle.own_cells.specs.{declared.chain.own_chain.Name.Name, OneChain.OwnChainCells.OwnChain, OneChain.OwnChainCells.own_chain_touches, OneChain.OwnChainOwned.taken, OneChain.OwnChainOwned.accepted, OneChain.OwnChainOwned.own_chain_queue, OneChain.OwnChainOwned.IsIdle}
use Rattle.own_cells.specs.OneRing.Laws.Numbers.{same_nat, equal_nat, apart_nat, is_even}
use Rattle.own_cells.specs.OneChain.Laws.{OwnChainRuns.bare_step, OwnChainRuns.OwnChainEnds, OwnChainPushes.push-answers, OwnChainPops.pop-answers, OwnChainSequential.EndsAnswered, OwnChainSequential.OwnChainAnswers, OwnChainSequential.sequential, OwnChainSequential.length-items}
use Rattle.own_cells.specs.OneChain.Laws.OwnChainLeaves.{marked, idle-marked, queue-marked, tail-word, head-word}

close-answers : {T : Type 0} (r : OwnChain T) → IsIdle r → OwnChainAnswers r call.Close
close-answers {T} r i = (
  tt,
  bare_step (STEPS_ALONE - 1) chain.Closing (op.Or word.Tail MARK) r (marked r) None (answer.Found r.tail) (ends (reply.Close (r.tail % 2 == 0))) (EndsAnswered call.Close r) tt (λ x y e. e) refl tt refl (
    idle-marked r i,
    (reply.Close (r.tail % 2 == 0), refl, sequential r (marked r) call.Close (reply.Close (r.tail % 2 == 0)) (idle-marked r i) (ap reply.Close (is_even r.tail)) (queue-marked r) (λ x. refl)),
  ),
)

is_closed-answers : {T : Type 0} (r : OwnChain T) → IsIdle r → OwnChainAnswers r call.IsClosed
is_closed-answers r i = (
  tt,
  bare_step (STEPS_ALONE - 1) chain.ClosedTail (op.Load word.Tail) r r None (answer.Found r.tail) (ends (reply.IsClosed (is_shut r.tail))) (EndsAnswered call.IsClosed r) tt (λ x y e. e) refl tt refl
      (i, (reply.IsClosed (is_shut r.tail), refl, sequential r r call.IsClosed (reply.IsClosed (is_shut r.tail)) i refl refl (λ x. refl))),
)

-- the two positions are the same
abbrev met : {T : Type 0} → OwnChain T → Bool
met r = over_end (position_of r.tail) == over_end (position_of r.head)

is_empty-answers : {T : Type 0} (r : OwnChain T) → IsIdle r → OwnChainAnswers r call.IsEmpty
is_empty-answers {T} r i = (
  tt,
  bare_step (STEPS_ALONE - 1) chain.EmptyHead (op.Load word.Head) r r None (answer.Found r.head) (loads (chain.EmptyTail r.head) word.Tail) (EndsAnswered call.IsEmpty r) tt (λ x y e. e) refl tt refl
      (bare_step (STEPS_ALONE - 2) (chain.EmptyTail r.head) (op.Load word.Tail) r r None (answer.Found r.tail) (ends (reply.IsEmpty (met r))) (EndsAnswered call.IsEmpty r) tt (λ x y e. e) refl (head-word r i, tail-word r i) refl
      (i, (reply.IsEmpty (met r), refl, sequential r r call.IsEmpty (reply.IsEmpty (met r)) i (ap reply.IsEmpty (is (own_chain_queue r).items (length-items r i))) refl (λ x. refl)))),
)
  where
    unmoved : (p : ℕ) → offset_at p < BLOCK_SLOTS → over_end p ≡ p
    unmoved p rests = let other : (offset_at p == BLOCK_SLOTS) ≡ false = apart_nat (offset_at p) BLOCK_SLOTS (omega arith) in rw other refl

    same : (xs : List T) → length xs ≡ accepted r - taken r → (position_of r.tail == position_of r.head) ≡ is_empty xs
    same [] long = let h = i.head_rests in let t = i.tail_rests in let order = i.order in equal_nat (position_of r.tail) (position_of r.head) (omega arith)
    same (x ∷ xs) long = let h = i.head_rests in let t = i.tail_rests in apart_nat (position_of r.tail) (position_of r.head) (omega arith)

    is : (xs : List T) → length xs ≡ accepted r - taken r → met r ≡ is_empty xs
    is xs long = rw (unmoved (position_of r.tail) i.tail_rests, unmoved (position_of r.head) i.head_rests) (same xs long)

-- a call that counts the items
counted : {T : Type 0} (r : OwnChain T) (g : Look) → IsIdle r → OwnChainEnds STEPS_ALONE (loads (chain.CountTail g) word.Tail) r None (EndsAnswered (call_of_look g) r)
counted {T} r g i =
    let again : (r.tail == r.tail) ≡ true = same_nat r.tail in
    let many : ℕ = accepted r - taken r in
    let table = reply_table (own_chain_queue r) None many (is_shut r.tail) g refl (length-items r i) refl in
    bare_step (STEPS_ALONE - 1) (chain.CountTail g) (op.Load word.Tail) r r None (answer.Found r.tail) (loads (chain.CountHead g r.tail) word.Head) (EndsAnswered (call_of_look g) r) tt (λ x y e. e) refl tt refl
    (bare_step (STEPS_ALONE - 2) (chain.CountHead g r.tail) (op.Load word.Head) r r None (answer.Found r.head) (loads (chain.CountAgain g r.tail r.head) word.Tail) (EndsAnswered (call_of_look g) r) tt (λ x y e. e) refl tt refl
    (bare_step (STEPS_ALONE - 3) (chain.CountAgain g r.tail r.head) (op.Load word.Tail) r r None (answer.Found r.tail) (ends (reply_of_look None many (is_shut r.tail) g)) (EndsAnswered (call_of_look g) r) tt (λ x y e. e) refl
    (tail-word r i, head-word r i, λ e. i.order) (rw again refl)
    (i, (reply_of_look None many (is_shut r.tail) g, reply_filled T None many (is_shut r.tail) g, sequential r r (call_of_look g) (reply_of_look None many (is_shut r.tail) g) i table.0 table.1 (λ x. refl)))))

pub own_chain_answers : {T : Type 0} (r : OwnChain T) (c : Call T) → IsIdle r → OwnChainAnswers r c
own_chain_answers r (call.Push v) i = (tt, push-answers r v push_kind.Push i)
own_chain_answers r (call.ForcePush v) i = (tt, push-answers r v push_kind.Force i)
own_chain_answers r call.Pop i = (tt, pop-answers r i)
own_chain_answers r call.Close i = close-answers r i
own_chain_answers r call.IsClosed i = is_closed-answers r i
own_chain_answers r call.IsEmpty i = is_empty-answers r i
own_chain_answers r call.IsFull i = (tt, (i, (reply.IsFull false, refl, sequential r r call.IsFull (reply.IsFull false) i refl refl (λ x. refl))))
own_chain_answers r call.Capacity i = (tt, (i, (reply.Capacity None, refl, sequential r r call.Capacity (reply.Capacity None) i refl refl (λ x. refl))))
own_chain_answers r count i = (tt, counted r _ i)

pub own_chain_stays : {T : Type 0} (r : OwnChain T) (o : Op (Name T)) (carried : Option T) → own_chain_touches r touch.Nothing o carried r carried
own_chain_stays r o carried = refl
