-- The steps of a pop that reads its item, and of the walk over a passed block.
use Rattle.queue_laws.specs.Chain.{ChainTransitions.walk_after, ChainFacts.IsNamed, ChainAt.Only, ChainAt.walking, ChainAt.destroying, ChainAnswers.IsState, ChainAnswers.is_done, ChainAfter.if_walked, ChainAfter.if_destroyed}
use Rattle.queue_laws.specs.Common.Vocabulary.{Call, Reply, Effect, Answer, Next, Touch, BLOCK_SLOTS}
use Rattle.std.proofs.lemmas.Bool.{Decides.eqb_tells, lt-ltb, le-ltb}
use Rattle.queue_steps.specs.{State.State, declared.steps.chain.ChainLocal.ChainLocal as chain, ChainNext.walks, ChainNext.walks_on}
use Rattle.queue_laws.proofs.{Chain.ChainReads.walk_after_ok, Chain.ChainReads.walk_ok, Chain.ChainPassesReads.passes_walked, Chain.ChainAnswers.done_is, Chain.ChainHolds.after_walk, Chain.ChainHolds.after_walk_on, Common.Puts.put_same}
use Rattle.queue_laws.proofs.Chain.ChainStepOk.{NextOk, StepOk, still, silent}
use Rattle.std.proofs.Common.{ℕ, ◌+◌, ◌<◌, ◌≡◌, ◌≢◌, not, ◌∙◌, ◌⊎◌, inl, inr, Bool, true, false, if◌then◌else◌, Some, None, Ok, List, [], ◌∷◌, refl, sym, ap, subst, arith}
use Rattle.queue_laws.specs.Chain.ChainCells.{Reader, Unread, Done, Walker, Waits, Walk, GivenUp, Chain, queue_of, WalkOk, IsWalked, item_at, LAST, ChainOk, Passed, walker_of, HoldsOnly, Nothing}
use Rattle.queue_laws.specs.Chain.ChainTransitions as moves

-- whose the walk is after a slot
pub after_walker : (who slot : ℕ) → ((walk_after who slot ≡ GivenUp) × (slot + 1 ≡ LAST)) ⊎ ((walk_after who slot ≡ Walker who (slot + 1)) × (slot + 1 ≢ LAST))
after_walker who slot = elim (eqb_tells (slot + 1) LAST) [ inl t ↦ inl (rw t.0 refl, t.1) | inr n ↦ inr (rw n.0 refl, n.1) ]

-- the walk is no other party's
pub after_mine : (who other slot : ℕ) → other ≢ who → walker_of (walk_after who slot) ≢ Some other
after_mine who other slot ne e = elim (after_walker who slot) [
  | inl h ↦ (let z : None ≡ Some other = ap walker_of (sym h.0) ∙ e in cc)
  | inr h ↦ (let z : Some who ≡ Some other = ap walker_of (sym h.0) ∙ e in absurd (ne (let y : other ≡ who = cc in y)))
]

-- what is so of a walk that goes on behind a slot, and of one that ends there and gives the block up
pub behind_slot : (P : Walk → Next ℕ → Type 0) (who name slot : ℕ) → slot < LAST → (slot + 1 ≢ LAST → P (Walker who (slot + 1)) (walks name (slot + 1) Touch.Nothing))
    → (slot + 1 ≡ LAST → P GivenUp (Next.Reply (Reply.Pop (Ok tt)) (Some name))) → P (walk_after who slot) (walks_on name slot)
behind_slot P who name slot lt on over = elim (eqb_tells (slot + 1) LAST) [
  | inl t ↦ rw (t.0, le-ltb (slot + 2) BLOCK_SLOTS (let e = t.1 in omega arith)) (over t.1)
  | inr t ↦ rw (t.0, lt-ltb (slot + 2) BLOCK_SLOTS (let ne = t.1 in omega arith)) (on t.1)
]

-- the walk goes on after a slot, or ends and gives the block up
pub on_goes : {A : Type 0} (s : Chain A) (who : ℕ) (ms : List (State A)) (x : A) (b name slot : ℕ) → slot < LAST → IsNamed s b name → s.walks b ≡ walk_after who slot
    → (walk_after who slot ≡ GivenUp → HoldsOnly s who Nothing) → HoldsOnly s who (Only (Passed b)) → NextOk s who ms (walks_on name slot) (Some x) Call.Pop (Effect.Take x ∷ [])
on_goes s who ms x b name slot lt named is over on =
    behind_slot (λ w n. s.walks b ≡ w → (w ≡ GivenUp → HoldsOnly s who Nothing) → NextOk s who ms n (Some x) Call.Pop (Effect.Take x ∷ [])) who name slot lt
    (λ more is over. walking x b name (slot + 1) on is named) (λ last is over. (over refl, inr (b, named, is), (Reply.Pop (Ok x), refl, refl, λ e. cc))) is over

-- the walk is at this slot
pub walker_ok : {A : Type 0} (c : Chain A) (who b slot : ℕ) → ChainOk c → c.walks b ≡ Walker who slot → (slot < LAST) × IsWalked c.readers b slot
walker_ok c who b slot ok is = subst (λ w. WalkOk c.readers b w) is (ok.walk b)

walks_mine : {A : Type 0} (c : Chain A) (who b slot : ℕ) → c.walks b ≡ Walker who slot → (other : ℕ) → other ≢ who → walker_of (c.walks b) ≢ Some other
walks_mine c who b slot is other ne e = let z : Some who ≡ Some other = ap walker_of (sym is) ∙ e in absurd (ne (let y : other ≡ who = cc in y))

undone : (r : Reader) → is_done r ≡ false → r ≢ Done
undone Unread e z = cc
undone r e z = cc

-- the walk passes a slot that is read
passes_slot : {A : Type 0} (c : Chain A) (who : ℕ) (ms : List (State A)) (x : A) (b name slot : ℕ) → ChainOk c → HoldsOnly c who (Only (Passed b)) → c.walks b ≡ Walker who slot → IsNamed c b name → c.readers (item_at b slot) ≡ Done
    → ChainOk (moves.walked c b (walk_after who slot)) × NextOk (moves.walked c b (walk_after who slot)) who ms (walks_on name slot) (Some x) Call.Pop (Effect.Take x ∷ [])
passes_slot c who ms x b name slot ok holds is named read =
    let at = walker_ok c who b slot ok is in (
      walk_ok c b (walk_after who slot) ok (walk_after_ok c.readers b who slot at.0 at.1 read),
      on_goes (moves.walked c b (walk_after who slot)) who ms x b name slot at.0 named (put_same c.walks b (walk_after who slot))
          (λ e. after_walk c who b (walk_after who slot) (λ z. let y : None ≡ Some who = ap walker_of (sym e) ∙ z in cc) holds) (after_walk_on c who b (walk_after who slot) holds),
    )

-- W1: the state of a passed block's slot is read
pub good_walking : {A : Type 0} (c : Chain A) (who : ℕ) (ms : List (State A)) (x : A) (b name slot st : ℕ)
    → ChainOk c → HoldsOnly c who (Only (Passed b)) → c.walks b ≡ Walker who slot → IsNamed c b name → IsState c b slot st
    → StepOk c (if_walked c who b slot) who ms (chain.Walking name slot) (Some x) Call.Pop (Effect.Take x ∷ []) (Answer.Found st)
good_walking {A} c who ms x b name slot st ok holds is named state = go (is_done (c.readers (item_at b slot))) refl
  where
    low : slot < BLOCK_SLOTS
    low = let at = (walker_ok c who b slot ok is).0 in omega arith

    go : (t : Bool) → is_done (c.readers (item_at b slot)) ≡ t → StepOk c (if t then moves.walked c b (walk_after who slot) else c) who ms (chain.Walking name slot) (Some x) Call.Pop (Effect.Take x ∷ []) (Answer.Found st)
    go true e =
        let p = passes_slot c who (queue_of c ∷ ms) x b name slot ok holds is named (done_is (c.readers (item_at b slot)) e) in
        silent c (moves.walked c b (walk_after who slot)) who ms (chain.Walking name slot) (Some x) Call.Pop (Effect.Take x ∷ []) (Answer.Found st) refl p.0 refl
        (passes_walked c who b (walk_after who slot) (walks_mine c who b slot is) (λ other ne. after_mine who other slot ne)) low (rw (state.read ∙ ap not e) p.1)
    go false e = still c who ms (chain.Walking name slot) (Some x) Call.Pop (Effect.Take x ∷ []) (Answer.Found st) refl ok low (rw (state.read ∙ ap not e) (destroying x b name slot holds is named))

-- W2: the reader of a passed block's slot is told to go on with the walk
pub good_destroying : {A : Type 0} (c : Chain A) (who : ℕ) (ms : List (State A)) (x : A) (b name slot st : ℕ)
    → ChainOk c → HoldsOnly c who (Only (Passed b)) → c.walks b ≡ Walker who slot → IsNamed c b name → IsState c b slot st
    → StepOk c (if_destroyed c who b slot) who ms (chain.Destroying name slot) (Some x) Call.Pop (Effect.Take x ∷ []) (Answer.Found st)
good_destroying {A} c who ms x b name slot st ok holds is named state = go (is_done (c.readers (item_at b slot))) refl
  where
    low : slot < BLOCK_SLOTS
    low = let at = (walker_ok c who b slot ok is).0 in omega arith

    go : (t : Bool) → is_done (c.readers (item_at b slot)) ≡ t → StepOk c (moves.walked c b (if t then walk_after who slot else Waits slot)) who ms (chain.Destroying name slot) (Some x) Call.Pop (Effect.Take x ∷ []) (Answer.Found st)
    go true e =
        let p = passes_slot c who (queue_of c ∷ ms) x b name slot ok holds is named (done_is (c.readers (item_at b slot)) e) in
        silent c (moves.walked c b (walk_after who slot)) who ms (chain.Destroying name slot) (Some x) Call.Pop (Effect.Take x ∷ []) (Answer.Found st) refl p.0 refl
        (passes_walked c who b (walk_after who slot) (walks_mine c who b slot is) (λ other ne. after_mine who other slot ne)) low (rw (state.read ∙ ap not e) p.1)
    go false e =
        let at = walker_ok c who b slot ok is in
        silent c (moves.walked c b (Waits slot)) who ms (chain.Destroying name slot) (Some x) Call.Pop (Effect.Take x ∷ []) (Answer.Found st) refl
        (walk_ok c b (Waits slot) ok (at.0, at.1, undone (c.readers (item_at b slot)) e)) refl
        (passes_walked c who b (Waits slot) (walks_mine c who b slot is) (λ other ne z. let y : None ≡ Some other = z in cc)) low
        (rw (state.read ∙ ap not e) (after_walk c who b (Waits slot) (λ z. let y : None ≡ Some who = z in cc) holds, tt, (Reply.Pop (Ok x), refl, refl, λ z. cc)))
