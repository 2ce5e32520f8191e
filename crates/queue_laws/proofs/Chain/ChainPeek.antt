-- Whether there is a block more behind the next one, and whether the chain is empty.
use Rattle.std.proofs.Common.{ℕ, ◌+◌, ◌*◌, ◌/◌, ◌<◌, ◌≤◌, ◌≡◌, inl, inr, Bool, true, false, Some, None, List, [], ◌∷◌, subst, arith, refl}
use Rattle.queue_laws.specs.{Common.Vocabulary.Call, Common.Vocabulary.Effect, Common.Vocabulary.Answer, Common.Vocabulary.BLOCK_SLOTS, Chain.ChainFacts.head_of, Chain.ChainFacts.Got, Chain.ChainAt.Either, Chain.ChainAt.IsBehind, Chain.ChainAt.passing, Chain.ChainAnswers.linked_of}
use Rattle.queue_steps.specs.{State.State, declared.steps.chain.ChainLocal.ChainLocal as chain}
use Rattle.queue_laws.specs.Chain.ChainCells.{Mover, Rests, Passing, LinkState, Linked, Chain, BlocksOk, LinkOk, FrontOk, ChainOk, Read, Head, HoldsOnly}
use Rattle.queue_laws.proofs.Chain.ChainStepOk.{StepOk, still}

-- so many blocks hold so many items
blocks_full : (tail blocks b : ℕ) (m : Mover) → BlocksOk tail blocks m → b + 1 < blocks → (b + 1) * BLOCK_SLOTS ≤ tail
blocks_full tail blocks b Rests (inl h) lt = absurd (let z = h.1 in omega arith)
blocks_full tail blocks b Rests (inr e) lt = omega arith
blocks_full tail blocks b m h lt = let full = h.1 in omega arith

-- V6: the link behind the next block is read
pub good_peeking : {A : Type 0} (c : Chain A) (who : ℕ) (ms : List (State A)) (x : A) (n name after : ℕ) (more : Bool)
    → ChainOk c → HoldsOnly c who (Either (Read n) Head) → Got c who n x name → (c.passer ≡ Passing who) × (c.head ≡ n + 1) → IsBehind c n after
    → StepOk c c who ms (chain.Peeking (head_of n more) name after) None Call.Pop (Effect.Take x ∷ []) (Answer.Linked (linked_of (c.links (n / BLOCK_SLOTS + 1)) (c.names (n / BLOCK_SLOTS + 1 + 1))))
good_peeking {A} c who ms x n name after more ok holds got pass behind = go (c.links (n / BLOCK_SLOTS + 1)) (ok.link (n / BLOCK_SLOTS + 1))
  where
    front : FrontOk c.head c.front (Passing who)
    front = subst (λ p. FrontOk c.head c.front p) pass.0 ok.fronted

    go : (l : LinkState) → LinkOk c.blocks (n / BLOCK_SLOTS + 1) l → StepOk c c who ms (chain.Peeking (head_of n more) name after) None Call.Pop (Effect.Take x ∷ []) (Answer.Linked (linked_of l (c.names (n / BLOCK_SLOTS + 1 + 1))))
    go Linked h =
        still c who ms (chain.Peeking (head_of n more) name after) None Call.Pop (Effect.Take x ∷ []) (Answer.Linked (Some (c.names (n / BLOCK_SLOTS + 1 + 1)))) refl ok tt
        (passing x n name after more true holds got pass behind (λ e. let full = blocks_full c.tail c.blocks (n / BLOCK_SLOTS + 1) c.mover ok.laid h in let f = front in let at = pass.1 in omega arith))
    go l h = still c who ms (chain.Peeking (head_of n more) name after) None Call.Pop (Effect.Take x ∷ []) (Answer.Linked None) refl ok tt (passing x n name after more false holds got pass behind (λ e. cc))
