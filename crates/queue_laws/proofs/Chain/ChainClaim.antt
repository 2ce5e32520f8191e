-- The steps of a push that change the chain: the first block, the exchange of the tail, the next block, and the write.
use Rattle.std.proofs.lemmas.Bool.Decides.{eqb_tells}
use Rattle.queue_laws.specs.{Common.Vocabulary.Effect, Common.Vocabulary.Answer, Common.Vocabulary.PushKind, Common.Vocabulary.LIMIT, Common.Vocabulary.BLOCK_SLOTS, Common.Pushes.pushes, Chain.ChainPasses.Passes, Chain.ChainFacts.open_tail_of, Chain.ChainFacts.TailBlockIs, Chain.ChainFacts.IsNamed}
use Rattle.queue_laws.specs.Chain.{ChainFacts.HasSpare, ChainFacts.SawTail, ChainFacts.Claimed, ChainAnswers.tail_word, ChainAnswers.tail_place, ChainAnswers.last_of, ChainAfter.if_installed, ChainAfter.if_claimed, ChainAfter.claimed_if}
use Rattle.queue_steps.specs.{State.State, ChainWords.offset_of, declared.steps.chain.ChainLocal.ChainLocal as chain, Words.IsWord, ChainNext.lays, ChainNext.writes}
use Rattle.queue_laws.proofs.{Common.Puts.put_ok, Common.Puts.put_same, Common.Tails.shut_tail, Common.Pushes.closed_push, Common.Pushes.appended_push, Chain.ChainPasses.passes_marked, Chain.ChainPasses.passes_appended, Chain.ChainPasses.passes_installed, Chain.ChainPasses.passes_displayed}
use Rattle.queue_laws.proofs.Chain.{ChainPassesLaying.passes_laid_out, ChainPassesLaying.passes_opened, ChainPassesLaying.passes_chained, ChainPassesLaying.passes_written, ChainFacts.named_stays, ChainAnswers.same_tail, ChainAnswers.tail_small, ChainPush.tail_goes, ChainPush.open_small}
use Rattle.queue_laws.proofs.Chain.ChainStepOk.{NextOk, StepOk, still, silent, spare_gives}
use Rattle.queue_laws.proofs.Chain.ChainHolds.{after_install, after_display, after_append, after_append_last, after_lay, after_open, after_chain, after_write}
use Rattle.std.proofs.Common.{ℕ, ◌+◌, ◌-◌, ◌/◌, ◌<◌, ◌≤◌, ◌≡◌, ◌≢◌, ◌==◌, ◌⊎◌, inl, inr, zero, suc, Bool, true, false, Option, Some, None, IsSome, List, [], ◌∷◌, refl, sym, ap, subst, arith, ◌∙◌}
use Rattle.queue_laws.specs.Chain.ChainCells.{Writing, Rests, Laying, Opening, LinkState, Unlinked, Linking, Showing, Spare, Chain, queue_of, BlocksOk, LinkOk, ChainOk, Write, Tail, Next, First, mover_of, HoldsOnly, Nothing}
use Rattle.queue_laws.specs.Chain.ChainTransitions as moves
use Rattle.queue_laws.proofs.Chain.ChainTransitions.{append_ok, append_within, append_last, install_ok, display_ok, lay_ok, open_ok, chain_ok, write_ok, mark_ok}
use Rattle.queue_laws.specs.Chain.ChainAt.{Only, Either, IsLast, push_tail, showing, claiming, laying, opening, chaining, writing}

-- the first block is there, and has this name
first_named : {A : Type 0} (c : Chain A) (who f : ℕ) → c.blocks ≡ 0 → IsNamed (moves.installed c who f) 0 f
first_named c who f none = (omega arith, sym (put_ok c.names c.blocks 0 f (λ j x. x ≡ f) refl (λ ne. absurd (ne (sym none)))))

-- U4: the first block is installed
pub good_installing : {A : Type 0} (c : Chain A) (who : ℕ) (ms : List (State A)) (d : PushKind) (v : A) (f : ℕ)
    → ChainOk c → HoldsOnly c who Nothing → SawTail c 0 ms → c.uses f ≡ Spare who → StepOk c (if_installed c who f c.blocks) who ms (chain.Installing d (open_tail_of 0) f) (Some v) (pushes d v) [] (Answer.Linked (last_of c.names c.blocks))
good_installing {A} c who ms d v f ok none saw fresh = go c.blocks refl
  where
    go : (n : ℕ) → c.blocks ≡ n → StepOk c (if_installed c who f n) who ms (chain.Installing d (open_tail_of 0) f) (Some v) (pushes d v) [] (Answer.Linked (last_of c.names n))
    go zero e =
        silent c (moves.installed c who f) who ms (chain.Installing d (open_tail_of 0) f) (Some v) (pushes d v) [] (Answer.Linked None) refl (install_ok c who f ok e fresh) refl (passes_installed c who f ok e fresh) tt
        (showing d v f (after_install c who f none) (record { below = saw.below; is = saw.is; moment = inr saw.moment }) refl (first_named c who f e))
    go (suc b) e =
        still c who ms (chain.Installing d (open_tail_of 0) f) (Some v) (pushes d v) [] (Answer.Linked (Some (c.names b))) refl ok tt (push_tail d v (Some f) none (fresh, omega arith))

-- U4b: the first block is shown to the poppers
pub good_showing : {A : Type 0} (c : Chain A) (who : ℕ) (ms : List (State A)) (d : PushKind) (v : A) (name : ℕ)
    → ChainOk c → HoldsOnly c who (Only First) → SawTail c 0 ms → c.shown ≡ Showing who → IsNamed c 0 name → StepOk c (moves.displayed c) who ms (chain.Showing d (open_tail_of 0) name) (Some v) (pushes d v) [] Answer.Done
good_showing c who ms d v name ok first saw is named =
    silent c (moves.displayed c) who ms (chain.Showing d (open_tail_of 0) name) (Some v) (pushes d v) [] Answer.Done refl (display_ok c who ok is) refl (passes_displayed c who is) (open_small c 0 ms saw)
    (claiming d v 0 name None (after_display c who first) tt (record { below = saw.below; is = saw.is; moment = inr saw.moment }) (inr named) (λ last. absurd (omega arith)))

-- U5: the tail is exchanged, by which an item is appended
pub good_claiming : {A : Type 0} (c : Chain A) (who : ℕ) (ms : List (State A)) (d : PushKind) (v : A) (q name : ℕ) (spare : Option ℕ)
    → ChainOk c → HoldsOnly c who Nothing → HasSpare c who spare → SawTail c q ms → TailBlockIs c q name → (IsLast q → IsSome spare)
    → StepOk c (if_claimed c who q v) who ms (chain.Claiming d (open_tail_of q) name spare) (Some v) (pushes d v) [] (Answer.Found (tail_word c))
good_claiming {A} c who ms d v q name spare ok none spare_is saw block enough = go (eqb_tells (tail_word c) (open_tail_of q))
  where
    fits : IsWord (tail_word c) × (tail_word c ≡ open_tail_of q → offset_of (open_tail_of q) + 1 ≡ BLOCK_SLOTS → IsSome spare)
    fits = (tail_small c ok, λ e last. enough (omega arith))

    go : (((tail_word c == open_tail_of q) ≡ true) × (tail_word c ≡ open_tail_of q)) ⊎ (((tail_word c == open_tail_of q) ≡ false) × (tail_word c ≢ open_tail_of q))
        → StepOk c (if_claimed c who q v) who ms (chain.Claiming d (open_tail_of q) name spare) (Some v) (pushes d v) [] (Answer.Found (tail_word c))
    go (inr e) =
        subst (λ b. StepOk c (claimed_if c who v b (offset_of (open_tail_of q) + 1 == BLOCK_SLOTS)) who ms (chain.Claiming d (open_tail_of q) name spare) (Some v) (pushes d v) [] (Answer.Found (tail_word c))) (sym e.0)
        (still c who ms (chain.Claiming d (open_tail_of q) name spare) (Some v) (pushes d v) [] (Answer.Found (tail_word c)) (rw e.0 refl) ok fits
        (rw e.0 (tail_goes c who ms d v spare ok none spare_is)))
    go (inl e) =
        subst (λ b. StepOk c (claimed_if c who v b (offset_of (open_tail_of q) + 1 == BLOCK_SLOTS)) who ms (chain.Claiming d (open_tail_of q) name spare) (Some v) (pushes d v) [] (Answer.Found (tail_word c))) (sym e.0)
        (at_end (eqb_tells (offset_of (open_tail_of q) + 1) BLOCK_SLOTS))
      where
        same : (c.closed ≡ false) × (c.tail ≡ q) × (c.mover ≡ Rests)
        same = same_tail c q ok saw.is e.1

        named : IsNamed c (c.tail / BLOCK_SLOTS) name
        named = elim block [ inl lt ↦ absurd (let at = same.1 in omega arith) | inr h ↦ subst (λ n. IsNamed c (n / BLOCK_SLOTS) name) (sym same.1) h ]

        resting : BlocksOk c.tail c.blocks Rests
        resting = subst (λ m. BlocksOk c.tail c.blocks m) same.2 ok.laid

        low : c.tail < LIMIT
        low = let at = same.1 in let below = saw.below in omega arith

        some : 0 < c.blocks
        some = let lt = named.0 in omega arith

        at_end : (((offset_of (open_tail_of q) + 1 == BLOCK_SLOTS) ≡ true) × (offset_of (open_tail_of q) + 1 ≡ BLOCK_SLOTS)) ⊎ (((offset_of (open_tail_of q) + 1 == BLOCK_SLOTS) ≡ false) × (offset_of (open_tail_of q) + 1 ≢ BLOCK_SLOTS))
            → StepOk c (claimed_if c who v true (offset_of (open_tail_of q) + 1 == BLOCK_SLOTS)) who ms (chain.Claiming d (open_tail_of q) name spare) (Some v) (pushes d v) [] (Answer.Found (tail_word c))
        at_end (inr t) =
            let good = append_ok c who v Rests ok same.0 low (append_within c.tail c.blocks some resting (λ z. t.1 (let at = same.1 in omega arith))) (λ p e. cc) in
            subst (λ b. StepOk c (claimed_if c who v true b) who ms (chain.Claiming d (open_tail_of q) name spare) (Some v) (pushes d v) [] (Answer.Found (tail_word c))) (sym t.0) (record {
              e = Some (Effect.Append v);
              told = rw e.0 (v, refl);
              goes_on = fits;
              ok = good.1;
              makes = (good.0, refl);
              passes = passes_appended c who v Rests ok same.2 (inl refl);
              goes = rw (e.0, t.0) (subst (λ n. NextOk (moves.appended c who v Rests) who (queue_of (moves.appended c who v Rests) ∷ ms) (writes d (open_tail_of n) name spare) (Some v) (pushes d v) (Effect.Append v ∷ [])) same.1
                  (writing d v c.tail name spare (after_append c who v none) (record { mine = put_same c.writers c.tail (Writing who v); named = named }) (has spare spare_is)));
            })
          where
            has : (x : Option ℕ) → HasSpare c who x → HasSpare (moves.appended c who v Rests) who x
            has None h = tt
            has (Some f) h = h
        at_end (inl t) =
            let good = append_ok c who v (Laying who) ok same.0 low (append_last c.tail c.blocks who some resting (let at = same.1 in omega arith)) (λ p e. cc) in
            subst (λ b. StepOk c (claimed_if c who v true b) who ms (chain.Claiming d (open_tail_of q) name spare) (Some v) (pushes d v) [] (Answer.Found (tail_word c))) (sym t.0) (record {
              e = Some (Effect.Append v);
              told = rw e.0 (v, refl);
              goes_on = fits;
              ok = good.1;
              makes = (good.0, refl);
              passes = passes_appended c who v (Laying who) ok same.2 (inr refl);
              goes = rw (e.0, t.0) (with_spare spare spare_is (enough (omega (arith, t.1))));
            })
          where
            with_spare : (x : Option ℕ) → HasSpare c who x → IsSome x → NextOk (moves.appended c who v (Laying who)) who (queue_of (moves.appended c who v (Laying who)) ∷ ms) (lays d (open_tail_of q) name x) (Some v) (pushes d v) (Effect.Append v ∷ [])
            with_spare None h is = cc
            with_spare (Some f) h is =
                subst (λ n. NextOk (moves.appended c who v (Laying who)) who (queue_of (moves.appended c who v (Laying who)) ∷ ms) (lays d (open_tail_of n) name (Some f)) (Some v) (pushes d v) (Effect.Append v ∷ [])) same.1
                (laying d v c.tail name f (after_append_last c who v none) (record { mine = put_same c.writers c.tail (Writing who v); named = named }) (refl, refl) h.0)

-- U6: the spare becomes the pushers' block
pub good_laying : {A : Type 0} (c : Chain A) (who : ℕ) (ms : List (State A)) (d : PushKind) (v : A) (n name f : ℕ)
    → ChainOk c → HoldsOnly c who (Either (Write n) Tail) → Claimed c who n v name → (c.mover ≡ Laying who) × (c.tail ≡ n + 1) → c.uses f ≡ Spare who
    → StepOk c (moves.laid_out c who f) who ms (chain.Laying d (open_tail_of n) name f) (Some v) (pushes d v) (Effect.Append v ∷ []) Answer.Done
good_laying {A} c who ms d v n name f ok holds mine lays_it fresh =
    silent c (moves.laid_out c who f) who ms (chain.Laying d (open_tail_of n) name f) (Some v) (pushes d v) (Effect.Append v ∷ []) Answer.Done refl (lay_ok c who f ok lays_it.0 fresh) refl pass tt
    (opening d v n name f (after_lay c who f n (n / BLOCK_SLOTS) at holds) (record { mine = mine.mine; named = named_stays who (n / BLOCK_SLOTS) name pass mine.named }) (refl, lays_it.1)
    (subst (λ b. (moves.laid_out c who f).links b ≡ Linking who) at (put_same c.links (c.blocks - 1) (Linking who)))
    (omega (arith, some, at), sym (subst (λ b. (moves.laid_out c who f).names b ≡ f) next_is (put_same c.names c.blocks f))))
  where
    filled_up : BlocksOk c.tail c.blocks (Laying who)
    filled_up = subst (λ m. BlocksOk c.tail c.blocks m) lays_it.0 ok.laid

    some : 0 < c.blocks
    some = filled_up.0

    at : c.blocks - 1 ≡ n / BLOCK_SLOTS
    at = let full = filled_up.1 in let more = filled_up.0 in let e = lays_it.1 in omega arith

    next_is : c.blocks ≡ n / BLOCK_SLOTS + 1
    next_is = let x = at in let y = some in omega arith

    unlinked : c.links (c.blocks - 1) ≡ Unlinked
    unlinked = go (c.links (c.blocks - 1)) refl (ok.link (c.blocks - 1))
      where
        go : (l : LinkState) → c.links (c.blocks - 1) ≡ l → LinkOk c.blocks (c.blocks - 1) l → c.links (c.blocks - 1) ≡ Unlinked
        go Unlinked is h = is
        go l is h = absurd (let y = some in omega arith)

    pass : Passes who c (moves.laid_out c who f)
    pass = passes_laid_out c who f ok lays_it.0 unlinked fresh

-- U7: the tail moves on to the next block
pub good_opening : {A : Type 0} (c : Chain A) (who : ℕ) (ms : List (State A)) (d : PushKind) (v : A) (n name f : ℕ)
    → ChainOk c → HoldsOnly c who (λ x. (x ≡ Write n) ⊎ (x ≡ Tail) ⊎ (x ≡ Next (n / BLOCK_SLOTS))) → Claimed c who n v name → (c.mover ≡ Opening who) × (c.tail ≡ n + 1)
    → c.links (n / BLOCK_SLOTS) ≡ Linking who → IsNamed c (n / BLOCK_SLOTS + 1) f → StepOk c (moves.opened c) who ms (chain.Opening d (open_tail_of n) name f) (Some v) (pushes d v) (Effect.Append v ∷ []) (Answer.Found (tail_word c))
good_opening c who ms d v n name f ok holds mine opens links named =
    silent c (moves.opened c) who ms (chain.Opening d (open_tail_of n) name f) (Some v) (pushes d v) (Effect.Append v ∷ []) (Answer.Found (tail_word c)) refl (open_ok c who ok opens.0) refl (passes_opened c who opens.0) tt
    (chaining d v n name f (after_open c who n (n / BLOCK_SLOTS) holds) (record { mine = mine.mine; named = mine.named }) links named)

-- U8: the block is linked to the next one
pub good_chaining : {A : Type 0} (c : Chain A) (who : ℕ) (ms : List (State A)) (d : PushKind) (v : A) (n name f : ℕ)
    → ChainOk c → HoldsOnly c who (Either (Write n) (Next (n / BLOCK_SLOTS))) → Claimed c who n v name
    → c.links (n / BLOCK_SLOTS) ≡ Linking who → IsNamed c (n / BLOCK_SLOTS + 1) f → StepOk c (moves.chained c (n / BLOCK_SLOTS)) who ms (chain.Chaining d (open_tail_of n) name f) (Some v) (pushes d v) (Effect.Append v ∷ []) Answer.Done
good_chaining c who ms d v n name f ok holds mine links named =
    silent c (moves.chained c (n / BLOCK_SLOTS)) who ms (chain.Chaining d (open_tail_of n) name f) (Some v) (pushes d v) (Effect.Append v ∷ []) Answer.Done refl
    (chain_ok c who (n / BLOCK_SLOTS) ok links (λ e. elim (holds Tail (ap mover_of e)) [ inl z ↦ absurd (cc) | inr z ↦ absurd (cc) ])) refl (passes_chained c who (n / BLOCK_SLOTS) links) tt
    (writing d v n name None (after_chain c who n (n / BLOCK_SLOTS) holds) (record { mine = mine.mine; named = mine.named }) tt)

-- U9: the item is written into its slot
pub good_writing : {A : Type 0} (c : Chain A) (who : ℕ) (ms : List (State A)) (d : PushKind) (v : A) (n name : ℕ) (spare : Option ℕ) (x : ℕ)
    → ChainOk c → HoldsOnly c who (Only (Write n)) → Claimed c who n v name → HasSpare c who spare → StepOk c (moves.written c n v) who ms (chain.Writing d spare) None (pushes d v) (Effect.Append v ∷ []) (Answer.Found x)
good_writing {A} c who ms d v n name spare x ok holds mine spare_is =
    silent c (moves.written c n v) who ms (chain.Writing d spare) None (pushes d v) (Effect.Append v ∷ []) (Answer.Found x) refl (write_ok c who n v ok mine.mine) refl (passes_written c who n v mine.mine) tt
    (after_write c who n v holds, spare_gives (moves.written c n v) who spare (has spare spare_is), ((appended_push d v).0, (appended_push d v).1, (appended_push d v).2, λ e. cc))
  where
    has : (x : Option ℕ) → HasSpare c who x → HasSpare (moves.written c n v) who x
    has None h = tt
    has (Some f) h = h

-- US: the mark of a queue that has accepted all that it ever will
pub good_spending : {A : Type 0} (c : Chain A) (who : ℕ) (ms : List (State A)) (d : PushKind) (v : A) (spare : Option ℕ)
    → ChainOk c → HoldsOnly c who Nothing → HasSpare c who spare → LIMIT ≤ c.tail → StepOk c (moves.marked c) who ms (chain.ClosingAtLimit d spare) (Some v) (pushes d v) [] (Answer.Found (tail_word c))
good_spending {A} c who ms d v spare ok none spare_is spent = go c.closed refl
  where
    has : (x : Option ℕ) → HasSpare c who x → HasSpare (moves.marked c) who x
    has None h = tt
    has (Some f) h = h

    go : (b : Bool) → c.closed ≡ b → StepOk c (moves.marked c) who ms (chain.ClosingAtLimit d spare) (Some v) (pushes d v) [] (Answer.Found (tail_word c))
    go true shut = record {
      e = None;
      told = rw (shut_tail (tail_place c.tail c.mover) c.closed ∙ shut) refl;
      goes_on = tt;
      ok = mark_ok c ok;
      makes = ap (λ b. queue_of (record c { closed = b })) (sym shut);
      passes = passes_marked c who;
      goes = (none, spare_gives (moves.marked c) who spare (has spare spare_is), ((closed_push d v).0, (closed_push d v).1, (closed_push d v).2, λ e. inl (inl ((closed_push d v).4 (queue_of (moves.marked c)) refl))));
    }
    go false opened = record {
      e = Some Effect.SelfClose;
      told = rw (shut_tail (tail_place c.tail c.mover) c.closed ∙ opened) refl;
      goes_on = tt;
      ok = mark_ok c ok;
      makes = ((opened, refl, (let most = ok.most in omega arith)), refl);
      passes = passes_marked c who;
      goes = (none, spare_gives (moves.marked c) who spare (has spare spare_is), ((closed_push d v).0, (closed_push d v).1, (closed_push d v).3, λ e. cc));
    }
