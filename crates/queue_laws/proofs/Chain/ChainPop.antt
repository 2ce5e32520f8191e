-- The steps of a pop up to the exchange of the head, and over a block's end.
use Rattle.std.proofs.Common.{ℕ, ◌+◌, ◌/◌, ◌%◌, ◌<◌, ◌≤◌, ◌≡◌, ◌≢◌, ◌==◌, ◌∙◌, ◌⊎◌, inl, inr, Bool, true, false, Some, None, List, [], ◌∷◌, refl, sym, ap, subst, arith}
use Rattle.std.proofs.lemmas.Bool.{ne_eqb, eq-eqb, Decides.eqb_tells}
use Rattle.queue_laws.specs.Chain.{ChainFacts.head_of, ChainFacts.HeadIs, ChainFacts.HeadBlockIs, ChainFacts.IsMore, ChainFacts.IsNamed, ChainFacts.Got, ChainAnswers.head_word, ChainAnswers.shown_of, ChainAnswers.linked_of, ChainAfter.if_taken, ChainAfter.taken_if}
use Rattle.queue_laws.specs.Common.Vocabulary.{Call, Effect, Link, Op, Touch, Answer, BLOCK_SLOTS, TAIL_STEP}
use Rattle.queue_steps.specs.{State.State, Words.IsWord, ChainWords.offset_of, ChainNext.at, ChainNext.chain_head_found, ChainNext.awaits, ChainNext.follows, declared.steps.chain.ChainLocal.ChainLocal as chain}
use Rattle.queue_laws.proofs.{Common.Puts.put_same, Chain.ChainReads.front_is, Chain.ChainReads.take_ok, Chain.ChainReads.pass_ok, Chain.ChainReads.enter_ok, Chain.ChainPassesReads.passes_taken, Chain.ChainPassesReads.passes_passed, Chain.ChainPassesReads.passes_entered}
use Rattle.queue_laws.proofs.Chain.{ChainAnswers.head_offset, ChainAnswers.head_is_standing, ChainAnswers.standing_word, ChainAnswers.same_head, ChainStepOk.NextOk, ChainStepOk.StepOk, ChainStepOk.still, ChainStepOk.silent, ChainHolds.after_take, ChainHolds.after_take_last, ChainHolds.after_pass}
use Rattle.queue_laws.proofs.Chain.ChainHolds.{after_enter}
use Rattle.queue_laws.specs.Chain.ChainCells.{Stands, Passing, Entering, LinkState, Linked, Shown, Seen, Reading, Chain, queue_of, FrontOk, ShownOk, LinkOk, ChainOk, Read, Head, HoldsOnly, Nothing}
use Rattle.queue_laws.specs.Chain.ChainTransitions as moves
use Rattle.queue_laws.specs.Chain.ChainAt.{Either, IsBehind, IsFurther, pop_head, pop_block, pop_tail, taking, following, peeking, entering, awaiting}

-- what is known of a marked head
known_room : {A : Type 0} (c : Chain A) → ChainOk c → c.passer ≡ Stands → IsMore c c.head c.known
known_room {A} c ok stands known = (go c.shown refl ok.seen, ok.knows known stands)
  where
    go : (s : Shown) → c.shown ≡ s → ShownOk c.blocks c.head c.front c.known c.passer s → c.shown ≡ Seen
    go Seen is h = is
    go s is h = absurd (let z : true ≡ false = sym known ∙ h.3 in cc)

-- after a head that a pop found
pub head_goes : {A : Type 0} (c : Chain A) (who : ℕ) (ms : List (State A)) → ChainOk c → HoldsOnly c who Nothing → NextOk c who (queue_of c ∷ ms) (chain_head_found (head_word c)) None Call.Pop []
head_goes {A} c who ms ok none = go (eqb_tells (offset_of (head_word c)) BLOCK_SLOTS)
  where
    go : (((offset_of (head_word c) == BLOCK_SLOTS) ≡ true) × (offset_of (head_word c) ≡ BLOCK_SLOTS)) ⊎ (((offset_of (head_word c) == BLOCK_SLOTS) ≡ false) × (offset_of (head_word c) ≢ BLOCK_SLOTS))
        → NextOk c who (queue_of c ∷ ms) (chain_head_found (head_word c)) None Call.Pop []
    go (inl e) = rw e.0 (pop_head none)
    go (inr e) =
        let stands = head_is_standing c ok e.1 in
        rw e.0 (subst (λ h. NextOk c who (queue_of c ∷ ms) (at (chain.PopBlock h) Touch.Nothing (Op.LoadLink Link.HeadBlock)) None Call.Pop []) (sym (standing_word c stands))
        (pop_block c.head c.known none (inr (refl, stands)) (known_room c ok stands)))

pub good_pop_head : {A : Type 0} (c : Chain A) (who : ℕ) (ms : List (State A)) → ChainOk c → HoldsOnly c who Nothing → StepOk c c who ms chain.PopHead None Call.Pop [] (Answer.Found (head_word c))
good_pop_head c who ms ok none = still c who ms chain.PopHead None Call.Pop [] (Answer.Found (head_word c)) refl ok tt (head_goes c who ms ok none)

-- the poppers' block is that of the head, or the head moved on
front_named : {A : Type 0} (c : Chain A) (n : ℕ) → ChainOk c → HeadIs c n → c.shown ≡ Seen → HeadBlockIs c n (c.names c.front)
front_named c n ok (inl lt) shown = (shown, inl lt)
front_named {A} c n ok (inr (at_n, stands)) shown =
    let front : FrontOk c.head c.front Stands = subst (λ p. FrontOk c.head c.front p) stands ok.fronted in
    let low : ShownOk c.blocks c.head c.front c.known c.passer Seen = subst (λ s. ShownOk c.blocks c.head c.front c.known c.passer s) shown ok.seen in
    let is : c.front ≡ n / BLOCK_SLOTS = front ∙ ap (λ m. m / BLOCK_SLOTS) at_n in
    (shown, inr (subst (λ b. b < c.blocks) is low, ap c.names is))

pub head_low : {A : Type 0} (c : Chain A) (n : ℕ) → ChainOk c → HeadIs c n → n ≤ c.head
head_low c n ok (inl lt) = omega arith
head_low c n ok (inr h) = let e = h.0 in omega arith

pub read_small : {A : Type 0} (c : Chain A) (n : ℕ) (more : Bool) → ChainOk c → HeadIs c n → IsWord (head_of n more)
read_small c n true ok is = let a = head_low c n ok is in let b = ok.count in let m = ok.most in omega arith
read_small c n false ok is = let a = head_low c n ok is in let b = ok.count in let m = ok.most in omega arith

pub good_pop_block : {A : Type 0} (c : Chain A) (who : ℕ) (ms : List (State A)) (n : ℕ) (more : Bool) → ChainOk c → HoldsOnly c who Nothing → HeadIs c n → IsMore c n more
    → StepOk c c who ms (chain.PopBlock (head_of n more)) None Call.Pop [] (Answer.Linked (shown_of c.shown (c.names c.front)))
good_pop_block {A} c who ms n true ok none is room =
    subst (λ s. StepOk c c who ms (chain.PopBlock (head_of n true)) None Call.Pop [] (Answer.Linked (shown_of s (c.names c.front)))) (sym (room refl).0)
    (still c who ms (chain.PopBlock (head_of n true)) None Call.Pop [] (Answer.Linked (Some (c.names c.front))) refl ok (read_small c n true ok is, λ e. refl)
    (rw (eq-eqb (head_of n true % 2) 1 (omega arith)) (taking n (c.names c.front) (head_of n true + TAIL_STEP) true true none is (front_named c n ok is (room refl).0) (let r = (room refl).1 in omega arith) (omega arith) room)))
good_pop_block {A} c who ms n false ok none is room = go c.shown refl
  where
    go : (s : Shown) → c.shown ≡ s → StepOk c c who ms (chain.PopBlock (head_of n false)) None Call.Pop [] (Answer.Linked (shown_of s (c.names c.front)))
    go Seen e =
        still c who ms (chain.PopBlock (head_of n false)) None Call.Pop [] (Answer.Linked (Some (c.names c.front))) refl ok (read_small c n false ok is, λ e2. refl)
        (rw (ne_eqb (head_of n false % 2) 1 (λ z. absurd (omega arith))) (pop_tail n (Some (c.names c.front)) none is (front_named c n ok is e)))
    go s e =
        still c who ms (chain.PopBlock (head_of n false)) None Call.Pop [] (Answer.Linked None) refl ok (read_small c n false ok is, λ e2. absurd (omega arith)) (rw (ne_eqb (head_of n false % 2) 1 (λ z. absurd (omega arith))) (pop_tail n None none is tt))

-- V4: the head is exchanged, by which the front is taken
pub good_taking : {A : Type 0} (c : Chain A) (who : ℕ) (ms : List (State A)) (n name next : ℕ) (more new : Bool)
    → ChainOk c → HoldsOnly c who Nothing → HeadIs c n → HeadBlockIs c n name → n < c.tail → IsMore c n new
    → StepOk c (if_taken c who n more new) who ms (chain.Taking (head_of n more) name) None Call.Pop [] (Answer.Found (head_word c))
good_taking {A} c who ms n name next more new ok none is front there room = go (eqb_tells (head_word c) (head_of n more))
  where
    go : (((head_word c == head_of n more) ≡ true) × (head_word c ≡ head_of n more)) ⊎ (((head_word c == head_of n more) ≡ false) × (head_word c ≢ head_of n more))
        → StepOk c (if_taken c who n more new) who ms (chain.Taking (head_of n more) name) None Call.Pop [] (Answer.Found (head_word c))
    go (inr e) =
        subst (λ b. StepOk c (taken_if c who new b (offset_of (head_of n more) + 1 == BLOCK_SLOTS)) who ms (chain.Taking (head_of n more) name) None Call.Pop [] (Answer.Found (head_word c))) (sym e.0)
        (still c who ms (chain.Taking (head_of n more) name) None Call.Pop [] (Answer.Found (head_word c)) (rw e.0 refl) ok tt (rw e.0 (head_goes c who ms ok none)))
    go (inl e) =
        subst (λ b. StepOk c (taken_if c who new b (offset_of (head_of n more) + 1 == BLOCK_SLOTS)) who ms (chain.Taking (head_of n more) name) None Call.Pop [] (Answer.Found (head_word c))) (sym e.0)
        (at_end (eqb_tells (offset_of (head_of n more) + 1) BLOCK_SLOTS))
      where
        same : (c.known ≡ more) × (c.head ≡ n) × (c.passer ≡ Stands)
        same = same_head c n more ok is e.1

        lt : c.head < c.tail
        lt = let at_n = same.1 in omega arith

        named : IsNamed c (c.head / BLOCK_SLOTS) name
        named = elim front.1 [ inl low ↦ absurd (let at_n = same.1 in omega arith) | inr h ↦ subst (λ m. IsNamed c (m / BLOCK_SLOTS) name) (sym same.1) h ]

        stood : FrontOk c.head c.front Stands
        stood = subst (λ p. FrontOk c.head c.front p) same.2 ok.fronted

        at_end : (((offset_of (head_of n more) + 1 == BLOCK_SLOTS) ≡ true) × (offset_of (head_of n more) + 1 ≡ BLOCK_SLOTS)) ⊎ (((offset_of (head_of n more) + 1 == BLOCK_SLOTS) ≡ false) × (offset_of (head_of n more) + 1 ≢ BLOCK_SLOTS))
            → StepOk c (taken_if c who new true (offset_of (head_of n more) + 1 == BLOCK_SLOTS)) who ms (chain.Taking (head_of n more) name) None Call.Pop [] (Answer.Found (head_word c))
        at_end (inr t) =
            let f = front_is c ok lt in
            let at_n = same.1 in
            let off = head_offset n more in
            let good = take_ok c who Stands new f.1.0 ok lt f.1.1 front.0 (let s = stood in let ne = t.1 in omega arith) (λ k s. let r = (room k).1 in let ne = t.1 in omega arith) in
            subst (λ b. StepOk c (taken_if c who new true b) who ms (chain.Taking (head_of n more) name) None Call.Pop [] (Answer.Found (head_word c))) (sym t.0) (record {
              e = Some (Effect.Take f.1.0);
              told = rw e.0 (f.1.0, refl);
              goes_on = tt;
              ok = good.1;
              makes = (good.0, refl);
              passes = passes_taken c who Stands new f.0 same.2 (inl refl);
              goes = rw (e.0, t.0) (subst (λ m. NextOk (moves.taken c who Stands new) who (queue_of (moves.taken c who Stands new) ∷ ms) (awaits (head_of m more) name) None Call.Pop (Effect.Take f.1.0 ∷ [])) same.1
                  (awaiting f.1.0 c.head name more (after_take c who new none) (record { mine = put_same c.readers c.head (Reading who); item = f.1.1; named = named })));
            })
        at_end (inl t) =
            let f = front_is c ok lt in
            let at_n = same.1 in
            let off = head_offset n more in
            let good = take_ok c who (Passing who) new f.1.0 ok lt f.1.1 front.0 (let s = stood in let last = t.1 in omega arith) (λ k s. cc) in
            subst (λ b. StepOk c (taken_if c who new true b) who ms (chain.Taking (head_of n more) name) None Call.Pop [] (Answer.Found (head_word c))) (sym t.0) (record {
              e = Some (Effect.Take f.1.0);
              told = rw e.0 (f.1.0, refl);
              goes_on = tt;
              ok = good.1;
              makes = (good.0, refl);
              passes = passes_taken c who (Passing who) new f.0 same.2 (inr refl);
              goes = rw (e.0, t.0) (subst (λ m. NextOk (moves.taken c who (Passing who) new) who (queue_of (moves.taken c who (Passing who) new) ∷ ms) (follows (head_of m more) name) None Call.Pop (Effect.Take f.1.0 ∷ [])) same.1
                  (following f.1.0 c.head name more (after_take_last c who new none) (record { mine = put_same c.readers c.head (Reading who); item = f.1.1; named = named }) (refl, refl)));
            })

-- V5: a pop that takes the last slot of a block loads the link to the next one, which may be unset yet
pub good_following : {A : Type 0} (c : Chain A) (who : ℕ) (ms : List (State A)) (x : A) (n name : ℕ) (more : Bool)
    → ChainOk c → HoldsOnly c who (Either (Read n) Head) → Got c who n x name → (c.passer ≡ Passing who) × (c.head ≡ n + 1)
    → StepOk c c who ms (chain.Following (head_of n more) name) None Call.Pop (Effect.Take x ∷ []) (Answer.Linked (linked_of (c.links (n / BLOCK_SLOTS)) (c.names (n / BLOCK_SLOTS + 1))))
good_following {A} c who ms x n name more ok holds got pass = go (c.links (n / BLOCK_SLOTS)) refl (ok.link (n / BLOCK_SLOTS))
  where
    again : StepOk c c who ms (chain.Following (head_of n more) name) None Call.Pop (Effect.Take x ∷ []) (Answer.Linked None)
    again = still c who ms (chain.Following (head_of n more) name) None Call.Pop (Effect.Take x ∷ []) (Answer.Linked None) refl ok tt (following x n name more holds got pass)

    go : (l : LinkState) → c.links (n / BLOCK_SLOTS) ≡ l → LinkOk c.blocks (n / BLOCK_SLOTS) l → StepOk c c who ms (chain.Following (head_of n more) name) None Call.Pop (Effect.Take x ∷ []) (Answer.Linked (linked_of l (c.names (n / BLOCK_SLOTS + 1))))
    go Linked e h =
        still c who ms (chain.Following (head_of n more) name) None Call.Pop (Effect.Take x ∷ []) (Answer.Linked (Some (c.names (n / BLOCK_SLOTS + 1)))) refl ok tt
        (peeking x n name (c.names (n / BLOCK_SLOTS + 1)) more holds got pass (e, (h, refl)))
    go l e h = again

-- V7: the next block is shown to the poppers
pub good_passing : {A : Type 0} (c : Chain A) (who : ℕ) (ms : List (State A)) (x : A) (n name after : ℕ) (more further : Bool)
    → ChainOk c → HoldsOnly c who (Either (Read n) Head) → Got c who n x name → (c.passer ≡ Passing who) × (c.head ≡ n + 1) → IsBehind c n after → IsFurther c n further → IsWord (head_of n more)
    → StepOk c (moves.passed c who) who ms (chain.Passing (head_of n more) name further) None Call.Pop (Effect.Take x ∷ []) Answer.Done
good_passing {A} c who ms x n name after more further ok holds got pass behind room small =
    silent c (moves.passed c who) who ms (chain.Passing (head_of n more) name further) None Call.Pop (Effect.Take x ∷ []) Answer.Done refl (pass_ok c who ok pass.0 (ap c.links is ∙ behind.0)) refl (passes_passed c who pass.0) small
    (entering x n name more further (after_pass c who n holds) (record { mine = got.mine; item = got.item; named = got.named }) (refl, pass.1) room)
  where
    front : FrontOk c.head c.front (Passing who)
    front = subst (λ p. FrontOk c.head c.front p) pass.0 ok.fronted

    is : c.front ≡ n / BLOCK_SLOTS
    is = let f = front in let e = pass.1 in omega arith

-- V8: the head moves on to the next block
pub good_entering : {A : Type 0} (c : Chain A) (who : ℕ) (ms : List (State A)) (x : A) (n name : ℕ) (more further : Bool)
    → ChainOk c → HoldsOnly c who (Either (Read n) Head) → Got c who n x name → (c.passer ≡ Entering who) × (c.head ≡ n + 1) → IsFurther c n further
    → StepOk c (moves.entered c further) who ms (chain.Entering (head_of n more) name) None Call.Pop (Effect.Take x ∷ []) Answer.Done
good_entering c who ms x n name more further ok holds got enters room =
    silent c (moves.entered c further) who ms (chain.Entering (head_of n more) name) None Call.Pop (Effect.Take x ∷ []) Answer.Done refl (enter_ok c who further ok enters.0 (λ e. let r = room e in let h = enters.1 in omega arith)) refl (passes_entered c who further enters.0) tt
    (awaiting x n name more (after_enter c who n further holds) (record { mine = got.mine; item = got.item; named = got.named }))
