-- A chain from its opening on: a call that nobody hinders replies by its seventy-third step, also where the first block is not shown yet.
use Rattle.std.proofs.Common.{ℕ, ◌+◌, ◌<◌, ◌≡◌, ◌⊎◌, inl, inr, ◌∙◌, Bool, true, false, Option, Some, None, IsSome, List, [], ◌∷◌, refl, sym, ap, subst, arith}
use Rattle.std.proofs.lemmas.Bool.Decides.{eqb_tells}
use Rattle.machine_replay.specs.{Vocabulary.Kind, Vocabulary.Answer, Vocabulary.Local, Vocabulary.Next, Vocabulary.BLOCK_SLOTS, Vocabulary.Running, Book.Open, Progress.Standing, Progress.IsToShow, Progress.NobodyShows, Progress.UnhinderedWithin}
use Rattle.queue_steps.specs.{State.State, Next.next_of, Words.position_of, declared.steps.chain.ChainLocal.ChainLocal as chain}
use Rattle.queue_laws.specs.{Common.Effects.with_effect, Common.Stand.Stand, Chain.ChainAfter.after_of, Chain.ChainAfter.left_by, Chain.ChainAnswers.tail_word, Chain.ChainAnswers.shown_of, Chain.ChainAt.empty_head, Chain.ChainAt.empty_tail, Chain.ChainAt.closing, Chain.ChainAt.closed_tail}
use Rattle.machine_replay.proofs.{Engine.StandOf.running_of, Chain.Pops.is_pop, Chain.Pops.by_call, Chain.Pops.goes_as, Chain.Fits.ChainFits, Chain.Holding.ChainHolds, Chain.Laws.StepStands, Chain.Laws.chain_then, Chain.Laws.next_on, Chain.Stands.steps_stand, Chain.Kind.chain_rules}
use Rattle.machine_replay.proofs.{Chain.Stretch.not_empty, Chain.Stretch.ready_on, Chain.Stretch.words_stay, Chain.Waits.holds_at, Chain.Waits.holder, Chain.Waits.unseen_if, Progress.Stretch.Paces, Progress.Stretch.Turns, Progress.Stretch.Here, Progress.Stretch.party-open, Progress.Stretch.unhindered}
use Rattle.queue_laws.specs.Chain.ChainAt.{At, Only, push_tail, push_block, asking, installing, showing, claiming, spending, pop_head, pop_block, pop_tail, taking, following, peeking, passing, entering, awaiting, reading, beginning, walking, destroying, count_tail, count_head, count_again}
use Rattle.queue_laws.specs.Chain.ChainCells.{Shown, Hidden, Showing, Seen, Chain, ShownOk, First, shower_of, HoldsOnly, queue_of}
use Rattle.queue_laws.proofs.Chain.ChainRanks.{is_seen, rank, rank_at, rank_small, rank_some, Falls, IsBare}
use Rattle.queue_laws.proofs.Chain.{ChainRanksPush.first_place, ChainRanksStep.IsReady, ChainRanksStep.step_falls, ChainRight.NextOkSpares, ChainRight.step_right, ChainStep.is_chain}
use Rattle.machine_memory.specs.SharedMemory.{MemoryState}
use Rattle.machine_steps.specs.{Steps.answer_to, Steps.step_of, Steps.running_after, Steps.next_after, Steps.carried_then, World.World, World.call_at}

-- a call that goes on has fewer steps before it
goes_on : {A : Type 0} (c : Chain A) (n : Next ℕ) (v : Option A) (m : ℕ) (x : Running A) → running_after n v ≡ Some x → Falls c n m → rank (left_by c n) x.local < m
goes_on c (Next.Step l t o) v m x e falls = let same : record { local = l; touch = t; op = o; carried = v } ≡ x = cc in subst (λ y. rank c y.local < m) same falls
goes_on c (Next.Reply y spare) v m x e falls = cc

-- a pop that may find no block is one
ready_at : {A : Type 0} (c : Chain A) (l : Local ℕ) → (is_pop l ≡ true → is_seen c.shown ≡ false → position_of (tail_word c) ≡ 0) → IsReady c l
unfolding is_pop
ready_at c (Local.Chain (chain.PopBlock head)) ready = ready refl
ready_at c _ ready = tt

not_pop : false ≡ true → ⊥
not_pop e = cc

-- a step of a pop leaves the tail
pop_leaves : {A : Type 0} {c : Chain A} {who : ℕ} {ms : List (State A)} {k : Stand A} (ok : Bool) (s : MemoryState A) → At c who ms k → is_pop k.local ≡ true
    → (step_of Kind.Unbounded ok s (running_of k)).shared.tail ≡ s.tail
unfolding is_pop
pop_leaves ok s (pop_head none) pop = refl
pop_leaves ok s (pop_block n more none is room) pop = refl
pop_leaves ok s (pop_tail n block none is front) pop = refl
pop_leaves ok s (taking n name next more new none is front there word_is room) pop = refl
pop_leaves ok s (following x n name more holds got pass) pop = refl
pop_leaves ok s (peeking x n name after more holds got pass behind) pop = refl
pop_leaves ok s (passing x n name after more further holds got pass behind room) pop = refl
pop_leaves ok s (entering x n name more further holds got enters room) pop = refl
pop_leaves ok s (awaiting x n name more holds got) pop = refl
pop_leaves ok s (reading x n name more holds got wrote inner) pop = refl
pop_leaves ok s (beginning x n name more holds got wrote last) pop = refl
pop_leaves ok s (walking x b name slot holds is named) pop = refl
pop_leaves ok s (destroying x b name slot holds is named) pop = refl
pop_leaves ok s _ pop = absurd (not_pop pop)

-- a call that has had no effect has no part but the first block, which it is to show
has_bare : {A : Type 0} {c : Chain A} {who : ℕ} {ms : List (State A)} {k : Stand A} → At c who ms k → k.effects ≡ [] → HoldsOnly c who (Only First)
has_bare (push_tail d v spare none spare_is) e = λ x h. absurd (none x h)
has_bare (push_block d v spare q none spare_is saw) e = λ x h. absurd (none x h)
has_bare (asking d v q block none saw asked) e = λ x h. absurd (none x h)
has_bare (installing d v f none saw fresh) e = λ x h. absurd (none x h)
has_bare (showing d v name first saw is named) e = first
has_bare (claiming d v q name spare none spare_is saw block enough) e = λ x h. absurd (none x h)
has_bare (spending d v spare none spare_is spent) e = λ x h. absurd (none x h)
has_bare (pop_head none) e = λ x h. absurd (none x h)
has_bare (pop_block n more none is room) e = λ x h. absurd (none x h)
has_bare (pop_tail n block none is front) e = λ x h. absurd (none x h)
has_bare (taking n name next more new none is front there word_is room) e = λ x h. absurd (none x h)
has_bare (count_tail l count none) e = λ x h. absurd (none x h)
has_bare (count_head l w count none small low) e = λ x h. absurd (none x h)
has_bare (count_again l w h count none small seen) e = λ x h. absurd (none x h)
has_bare (empty_head none) e = λ x h. absurd (none x h)
has_bare (empty_tail h none small saw) e = λ x h. absurd (none x h)
has_bare (closing none) e = λ x h. absurd (none x h)
has_bare (closed_tail none) e = λ x h. absurd (none x h)
has_bare _ e = absurd (not_empty _ _ e)

-- a call that is to show the first block is no pop
shows_no_pop : (l : Local ℕ) → IsToShow l → is_pop l ≡ true → ⊥
unfolding is_pop
shows_no_pop (Local.Chain (chain.Showing d tail block)) such pop = not_pop pop
shows_no_pop _ such pop = such

not_none : (x : Option ℕ) → x ≡ None → IsSome x → ⊥
not_none None none some = cc
not_none (Some b) none some = cc

module _ (A : Type 0) where
  -- beside a pop, the tail is at its first place while no block is to be seen
  abbrev Ready : MemoryState A → Running A → Type 0
  Ready s r = is_pop r.local ≡ true → s.head_block ≡ None → position_of s.tail ≡ 0

  abbrev near : MemoryState A → Running A → ℕ
  near s r = rank_at s.tail s.head r.local

  none_before : (ok : Bool) (s : MemoryState A) (r : Running A) → (step_of Kind.Unbounded ok s r).shared.head_block ≡ None → s.head_block ≡ None
  none_before ok s r none = go s.head_block refl
    where
      go : (b : Option ℕ) → s.head_block ≡ b → s.head_block ≡ None
      go None e = e
      go (Some b) e = absurd (not_none (step_of Kind.Unbounded ok s r).shared.head_block none (ready_on A ok s r (subst (λ z. IsSome z) (sym e) refl)))

  unseen_front : (s : MemoryState A) (Q : State A) (g : Chain A) → ChainHolds s Q g → is_seen g.shown ≡ false → s.head_block ≡ None
  unseen_front s Q g holds unseen = ap (λ e. e.front) holds.codes.ends ∙ go g.shown unseen
    where
      go : (x : Shown) → is_seen x ≡ false → shown_of x (g.names g.front) ≡ None
      go Seen e = cc
      go x e = refl

  own_nears : (busy : ℕ) (ok : Bool) (s : MemoryState A) (Q : State A) (g : Chain A) (p : ℕ) (x x' : Running A) (o : Open A) → Ready s x → ChainHolds s Q g → ChainFits busy s Q g p x o → IsBare g p
      → (step_of Kind.Unbounded ok s x).call ≡ Some x' → Ready (step_of Kind.Unbounded ok s x).shared x' × (near (step_of Kind.Unbounded ok s x).shared x' < near s x)
  own_nears busy ok s Q g p x x' o ready holds f bare goes = (readily, less)
    where
      t : MemoryState A
      t = (step_of Kind.Unbounded ok s x).shared

      a : Answer ℕ
      a = answer_to ok s x

      after : Chain A
      after = chain_then ok s g p o.moments x o.call o.effects f.here

      step : StepStands ok s g p o.moments x o.call o.effects f.here
      step = steps_stand A ok s Q g p o.moments x o.call o.effects holds f.here f.spares

      on : running_after (next_on ok s x) (carried_then s x) ≡ Some x'
      on = let went : next_after Kind.Unbounded ok s x ≡ next_on ok s x = ap (λ l. next_of Kind.Unbounded l a) (is_chain f.here) in subst (λ n. running_after n (carried_then s x) ≡ Some x') went goes

      same : is_pop x'.local ≡ is_pop x.local
      same =
          let right = step_right f.here a holds.ok step.found f.spares in
          let ends = subst (λ v. NextOkSpares after p (queue_of after ∷ o.moments) (next_on ok s x) v o.call (with_effect o.effects right.e)) (sym step.carried) right.ends in
          goes_as after p (queue_of after ∷ o.moments) (next_on ok s x) (carried_then s x) o.call (with_effect o.effects right.e) x' on ends ∙ sym (by_call f.here)

      readily : Ready t x'
      readily pop none =
          let was : is_pop x.local ≡ true = sym same ∙ pop in
          ap position_of (pop_leaves ok s f.here was) ∙ ready was (none_before ok s x none)

      less : near t x' < near s x
      less =
          let first = ready_at g x.local (λ pop unseen. sym (ap (λ e. position_of e.tail) holds.codes.ends) ∙ ready pop (unseen_front s Q g holds unseen)) in
          let falls = goes_on (after_of f.here a) (next_on ok s x) (carried_then s x) (rank g x.local) x' on (step_falls f.here a holds.ok step.found bare first) in
          let there : near t x' ≡ rank after x'.local = ap (λ e. rank_at e.tail e.head x'.local) step.codes.ends in
          let here : near s x ≡ rank g x.local = ap (λ e. rank_at e.tail e.head x.local) holds.codes.ends in
          omega (arith, falls, there, here)

  -- the step of another party that has had no effect, and has none
  keeps_ready : (s s' : MemoryState A) (Q : State A) (g : Chain A) (r : Running A) → ChainHolds s Q g → Ready s r → (s' ≡ s) ⊎ Turns (chain_rules A) s s' Q g → Ready s' r × (near s' r ≡ near s r)
  keeps_ready s s' Q g r holds ready (inl same) = (subst (λ z. Ready z r) (sym same) ready, ap (λ z. near z r) same)
  keeps_ready s s' Q g r holds ready (inr t) =
      let words = words_stay t.granted s t.fits.here t.none (ap (λ e. e.tail) holds.codes.ends) t.quiet in
      let tail : s'.tail ≡ s.tail = ap (λ z. z.tail) t.leaves ∙ words.1 in
      let head : s'.head ≡ s.head = ap (λ z. z.head) t.leaves ∙ words.0 in (
        λ pop none. ap position_of tail ∙ ready pop (none_before t.granted s t.call (sym (ap (λ z. z.head_block) t.leaves) ∙ none)),
        ap (λ z. rank_at z s'.head r.local) tail ∙ ap (λ z. rank_at s.tail z r.local) head,
      )

  chain_paces : Paces A Kind.Unbounded (chain_rules A)
  chain_paces = record {
    rank = near;
    most = BLOCK_SLOTS + 10;
    Free = λ g p. HoldsOnly g p (Only First);
    Ready = Ready;
    within = λ busy s Q g p r o ready holds f. (rank_some s.tail s.head r.local, rank_small s.tail s.head r.local);
    rests = λ g p h x e. absurd (h.0 x e);
    undone = λ busy s Q g p r o holds f e. has_bare f.here e;
    falls = own_nears;
    keeps = λ busy busy' s s' Q g g' p r o o' ready holds holds' f f' others others' turn. keeps_ready s s' Q g r holds ready turn;
  }

  -- where no other party is to show the first block, it is shown, or nothing was accepted yet, or the call is to show it
  readies : (parties : ℕ) (w : World (MemoryState A) (Running A)) (st : ℕ → Standing) (h : Here A Kind.Unbounded (chain_rules A) parties w st) (p : ℕ) (r : Running A) → call_at w p ≡ Some r → NobodyShows Kind.Unbounded w p → Ready w.shared r
  readies parties w st h p r is nobody pop none = go h.sim.g.shown refl h.sim.holds.ok.seen
    where
      go : (x : Shown) → h.sim.g.shown ≡ x → ShownOk h.sim.g.blocks h.sim.g.head h.sim.g.front h.sim.g.known h.sim.g.passer x → position_of w.shared.tail ≡ 0
      go Hidden e shown = ap position_of (ap (λ e. e.tail) h.sim.holds.codes.ends) ∙ first_place h.sim.g h.sim.holds.ok shown.0
      go Seen e shown = let no : true ≡ false = sym (ap is_seen e) ∙ unseen_if h.sim.g.shown (h.sim.g.names h.sim.g.front) (sym (ap (λ e. e.front) h.sim.holds.codes.ends) ∙ none) in cc
      go (Showing q) e shown = elim (eqb_tells q p) [
        | inl same ↦
            let o = party-open A Kind.Unbounded (chain_rules A) parties h.b.busy w.shared h.b.queue h.sim.g p (call_at w p) (h.b.open_call p) r (h.sim.each p) is in
            absurd (shows_no_pop r.local (holds_at First o.2.here (ap shower_of e ∙ ap (λ j. Some j) same.1)) pop)
        | inr other ↦
            let by = holder parties w st h First q (call_at w q) (h.b.open_call q) (h.sim.each q) (ap shower_of e) in
            absurd (nobody q by.0 other.1 by.1 by.2)
      ]

  pub chain_unhindered : UnhinderedWithin A Kind.Unbounded (BLOCK_SLOTS + 10)
  unfolding chain_paces
  chain_unhindered = unhindered A Kind.Unbounded (chain_rules A) chain_paces readies
