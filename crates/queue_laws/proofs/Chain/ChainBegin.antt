-- The beginning of the walk over a passed block, by the reader of its last slot.
use Rattle.queue_laws.specs.{Chain.ChainAfter.if_begun, Chain.ChainFacts.Got, Common.Puts.put, Chain.ChainTransitions.walk_after, Chain.ChainAt.Only, Chain.ChainAt.IsLast, Chain.ChainAt.destroying, Chain.ChainAnswers.IsState, Chain.ChainAnswers.is_done}
use Rattle.queue_laws.specs.Common.Vocabulary.{Call, Effect, Answer, BLOCK_SLOTS}
use Rattle.queue_steps.specs.{State.State, declared.steps.chain.ChainLocal.ChainLocal as chain}
use Rattle.queue_laws.proofs.{Chain.ChainStepOk.StepOk, Chain.ChainStepOk.silent, Chain.ChainPassesReads.passes_reads, Chain.ChainHolds.after_read_on, Common.Puts.put_ok, Common.Puts.put_same, Chain.ChainReads.read_ok, Chain.ChainReads.walk_after_ok, Chain.ChainAnswers.done_is}
use Rattle.queue_laws.proofs.Chain.ChainWalk.{after_mine, on_goes}
use Rattle.std.proofs.Common.{ℕ, ◌/◌, ◌≡◌, ◌≢◌, not, ◌∙◌, Bool, true, false, if◌then◌else◌, Some, None, List, [], ◌∷◌, refl, sym, ap, arith}
use Rattle.queue_laws.specs.Chain.ChainCells.{Wrote, Reading, Done, Walk, Walker, Chain, queue_of, WalkOk, IsWalked, item_at, LAST, ChainOk, Read, walker_of, HoldsOnly}
use Rattle.queue_laws.specs.Chain.ChainTransitions as moves

-- W1: the walk begins at the first slot, as the last slot's item is taken
pub good_beginning : {A : Type 0} (c : Chain A) (who : ℕ) (ms : List (State A)) (x : A) (n name st : ℕ)
    → ChainOk c → HoldsOnly c who (Only (Read n)) → Got c who n x name → c.writers n ≡ Wrote x → IsLast n → IsState c (n / BLOCK_SLOTS) 0 st
    → StepOk c (if_begun c who n) who ms (chain.Walking name 0) (Some x) Call.Pop (Effect.Take x ∷ []) (Answer.Found st)
good_beginning {A} c who ms x n name st ok holds got wrote last state = go (is_done (c.readers (item_at (n / BLOCK_SLOTS) 0))) refl
  where
    item : item_at (n / BLOCK_SLOTS) LAST ≡ n
    item = omega (arith, last)

    nobody : (w : Walk) → WalkOk c.readers (n / BLOCK_SLOTS) w → (other : ℕ) → walker_of w ≢ Some other
    nobody (Walker p i) h other e = let z : Reading who ≡ Done = sym got.mine ∙ (ap c.readers (sym item) ∙ h.1.0) in cc
    nobody w h other e = let y : None ≡ Some other = e in cc

    walked_none : IsWalked (put c.readers n Done) (n / BLOCK_SLOTS) 0
    walked_none = (ap (put c.readers n Done) item ∙ put_same c.readers n Done, λ j lt. absurd (omega arith))

    go : (t : Bool) → is_done (c.readers (item_at (n / BLOCK_SLOTS) 0)) ≡ t → StepOk c (moves.reads c n (if t then walk_after who 0 else Walker who 0)) who ms (chain.Walking name 0) (Some x) Call.Pop (Effect.Take x ∷ []) (Answer.Found st)
    go true t =
        let first_done : put c.readers n Done (item_at (n / BLOCK_SLOTS) 0) ≡ Done =
        put_ok c.readers n (item_at (n / BLOCK_SLOTS) 0) Done (λ k r. c.readers k ≡ Done → r ≡ Done) (λ e. refl) (λ ne e. e) (done_is (c.readers (item_at (n / BLOCK_SLOTS) 0)) t) in
        silent c (moves.reads c n (walk_after who 0)) who ms (chain.Walking name 0) (Some x) Call.Pop (Effect.Take x ∷ []) (Answer.Found st) refl
        (read_ok c who n x (walk_after who 0) ok got.mine wrote (walk_after_ok (put c.readers n Done) (n / BLOCK_SLOTS) who 0 (omega arith) walked_none first_done)) refl
        (passes_reads c who n (walk_after who 0) got.mine (λ other ne z. absurd (nobody (c.walks (n / BLOCK_SLOTS)) (ok.walk (n / BLOCK_SLOTS)) other z)) (λ other ne z. absurd (after_mine who other 0 ne z))) (omega arith)
        (rw (state.read ∙ ap not t) (on_goes (moves.reads c n (walk_after who 0)) who (queue_of c ∷ ms) x (n / BLOCK_SLOTS) name 0 (omega arith) got.named (put_same c.walks (n / BLOCK_SLOTS) (walk_after who 0))
        (λ e. cc) (after_read_on c who n (walk_after who 0) holds)))
    go false t =
        silent c (moves.reads c n (Walker who 0)) who ms (chain.Walking name 0) (Some x) Call.Pop (Effect.Take x ∷ []) (Answer.Found st) refl
        (read_ok c who n x (Walker who 0) ok got.mine wrote (omega arith, walked_none)) refl
        (passes_reads c who n (Walker who 0) got.mine (λ other ne z. absurd (nobody (c.walks (n / BLOCK_SLOTS)) (ok.walk (n / BLOCK_SLOTS)) other z)) (λ other ne z. absurd (after_mine who other 5 ne z))) (omega arith)
        (rw (state.read ∙ ap not t) (destroying x (n / BLOCK_SLOTS) name 0 (after_read_on c who n (Walker who 0) holds) (put_same c.walks (n / BLOCK_SLOTS) (Walker who 0)) got.named))
