-- A chain: who waits for whom, step by step.
use Rattle.std.proofs.Common.{ℕ, ◌+◌, ◌/◌, ◌%◌, ◌≤◌, ◌≡◌, ◌≢◌, ◌==◌, ◌⊎◌, inl, inr, ◌∙◌, not, false, true, Option, Some, None, List, refl, sym, ap, subst, arith}
use Rattle.std.proofs.lemmas.Bool.{eq-eqb}
use Rattle.machine_replay.specs.Vocabulary.{Call, Effect, Kind, Answer, Local, Next, PushKind, BLOCK_SLOTS, Running}
use Rattle.queue_steps.specs.{State.State, Next.next_of, Words.position_of, ChainWords.offset_of, declared.steps.chain.ChainLocal.ChainLocal as chain, ChainNext.chain_tail_found, ChainNext.chain_head_found, ChainNext.chain_pop_tail_found, ChainNext.followed, ChainNext.written_found, ChainNext.chain_next}
use Rattle.queue_laws.specs.{Common.Stand.Stand, Chain.ChainAfter.chain_of, Chain.ChainFacts.head_of, Chain.ChainFacts.open_tail_of}
use Rattle.queue_laws.specs.Chain.ChainAnswers.{Answers, IsState, tail_word, head_word, shown_of, linked_of, is_wrote}
use Rattle.machine_replay.proofs.{Engine.StandOf.stand_of, Progress.Beside.apart, Progress.Beside.beside, Progress.Beside.not_back, Chain.Laws.next_on, Chain.Stands.steps_stand, Chain.Kind.chain_rules}
use Rattle.machine_replay.proofs.Progress.Stretch.{Here, Party, reach, first, party-open}
use Rattle.queue_laws.specs.Chain.ChainAt.{At, push_tail, showing, laying, opening, chaining, writing, pop_head, pop_tail, following, peeking, passing, entering, awaiting, reading, beginning, walking, destroying}
use Rattle.queue_laws.proofs.Chain.{ChainEarly.early, ChainAnswers.head_offset, ChainRanks.rank, ChainRanks.late, ChainRanks.is_seen, ChainRanks.Falls, ChainRanks.rests_if, ChainRanks.stands_if, ChainRanksPop.head_falls, ChainRanksPop.unshown_place, ChainRanksPop.pop_tail_falls}
use Rattle.queue_laws.proofs.Chain.{ChainRanksPop.following_falls, ChainRanksPop.wrote_then, ChainRanksPop.awaiting_falls, ChainRanksPush.push_tail_falls, ChainReads.own_item, ChainStep.is_chain}
use Rattle.queue_laws.specs.Chain.ChainCells as cells
use Rattle.queue_laws.specs.Chain.ChainCells.{Passing, Shown, Seen, Chain, ChainOk, Part, Write, Read, Tail, Head, First, Passed, owner}
use Rattle.machine_steps.specs.{Left.opening_world, Steps.answer_to, Steps.running_after, Steps.next_after, Steps.carried_then, World.World, World.call_at}
use Rattle.machine_memory.specs.SharedMemory.{MemoryState}
use Rattle.machine_replay.specs.{Book.Open, Played.told_of, Played.world_after, Progress.Standing, Progress.Between, Progress.stands_by, Progress.IsToShow, Waits.ChainCallsWait, Waits.IsBeside, Waits.GoesOn, Waits.IsToMoveTail, Waits.IsToMoveHead, Waits.IsToLink, Waits.IsToWrite}

-- where a call stands that holds a part of the chain. Nobody waits for who reads an item or walks over a block
abbrev pub HolderAt : Part → Local ℕ → Type 0
HolderAt (Write n) l = IsToWrite l
HolderAt Tail l = IsToMoveTail l
HolderAt Head l = IsToMoveHead l
HolderAt (cells.Next b) l = IsToLink l
HolderAt First l = IsToShow l
HolderAt x l = Unit {0}

at_part : (l : Local ℕ) (p x : Part) → x ≡ p → HolderAt p l → HolderAt x l
at_part l p x e h = subst (λ y. HolderAt y l) (sym e) h

-- a pop that moves the head holds it, and the item that it has taken
moves_head : (l : Local ℕ) (n : ℕ) (x : Part) → IsToMoveHead l → (x ≡ Read n) ⊎ (x ≡ Head) → HolderAt x l
moves_head l n x h (inl e) = at_part l (Read n) x e tt
moves_head l n x h (inr e) = at_part l Head x e h

pub holds_at : {A : Type 0} {c : Chain A} {who : ℕ} {ms : List (State A)} {k : Stand A} (x : Part) → At c who ms k → owner c x ≡ Some who → HolderAt x k.local
holds_at x (showing d v name first saw is named) e = at_part (Local.Chain (chain.Showing d (open_tail_of 0) name)) First x (first x e) tt
holds_at x (laying d v n name f holds mine lays fresh) e = elim (holds x e) [
  | inl y ↦ at_part (Local.Chain (chain.Laying d (open_tail_of n) name f)) (Write n) x y tt
  | inr y ↦ at_part (Local.Chain (chain.Laying d (open_tail_of n) name f)) Tail x y tt
]
holds_at x (opening d v n name f holds mine opens links named) e = elim (holds x e) [
  | inl y ↦ at_part (Local.Chain (chain.Opening d (open_tail_of n) name f)) (Write n) x y tt
  | inr z ↦ elim z [
    | inl y ↦ at_part (Local.Chain (chain.Opening d (open_tail_of n) name f)) Tail x y tt
    | inr y ↦ at_part (Local.Chain (chain.Opening d (open_tail_of n) name f)) (cells.Next (n / BLOCK_SLOTS)) x y tt
  ]
]
holds_at x (chaining d v n name f holds mine links named) e = elim (holds x e) [
  | inl y ↦ at_part (Local.Chain (chain.Chaining d (open_tail_of n) name f)) (Write n) x y tt
  | inr y ↦ at_part (Local.Chain (chain.Chaining d (open_tail_of n) name f)) (cells.Next (n / BLOCK_SLOTS)) x y tt
]
holds_at x (writing d v n name spare holds mine spare_is) e = at_part (Local.Chain (chain.Writing d spare)) (Write n) x (holds x e) tt
holds_at x (following item n name more holds got pass) e = moves_head (Local.Chain (chain.Following (head_of n more) name)) n x tt (holds x e)
holds_at x (peeking item n name after more holds got pass behind) e = moves_head (Local.Chain (chain.Peeking (head_of n more) name after)) n x tt (holds x e)
holds_at x (passing item n name after more further holds got pass behind room) e = moves_head (Local.Chain (chain.Passing (head_of n more) name further)) n x tt (holds x e)
holds_at x (entering item n name more further holds got enters room) e = moves_head (Local.Chain (chain.Entering (head_of n more) name)) n x tt (holds x e)
holds_at x (awaiting item n name more holds got) e = at_part (Local.Chain (chain.Awaiting (head_of n more) name)) (Read n) x (holds x e) tt
holds_at x (reading item n name more holds got wrote inner) e = at_part (Local.Chain (chain.Reading name (offset_of (head_of n more)))) (Read n) x (holds x e) tt
holds_at x (beginning item n name more holds got wrote last) e = at_part (Local.Chain (chain.Walking name 0)) (Read n) x (holds x e) tt
holds_at x (walking item b name slot holds is named) e = at_part (Local.Chain (chain.Walking name slot)) (Passed b) x (holds x e) tt
holds_at x (destroying item b name slot holds is named) e = at_part (Local.Chain (chain.Destroying name slot)) (Passed b) x (holds x e) tt
holds_at x here e = absurd ((early refl here).1 x e)

-- a party holds a part, and its call stands at such a step
abbrev Held : {A : Type 0} → Chain A → (Local ℕ → Type 0) → Type 0
Held c Such = (who : ℕ) × ((x : Part) × (owner c x ≡ Some who) × ((l : Local ℕ) → HolderAt x l → Such l))

-- so it is where somebody has to hold the part
held_if : {A : Type 0} (c : Chain A) (x : Part) (Such : Local ℕ → Type 0) → (((p : ℕ) → owner c x ≢ Some p) → ⊥) → ((l : Local ℕ) → HolderAt x l → Such l) → Held c Such
held_if {A} c x Such owned at = go (owner c x) refl
  where
    go : (z : Option ℕ) → owner c x ≡ z → Held c Such
    go None e = absurd (owned (λ p is. let no : None ≡ Some p = sym e ∙ is in cc))
    go (Some p) e = (p, (x, e, at))

-- the call goes on at this step
abbrev NextAt : Next ℕ → Local ℕ → Type 0
NextAt (Next.Step l t o) m = l ≡ m
NextAt (Next.Reply x spare) m = ⊥

goes_to : {A : Type 0} (n : Next ℕ) (v : Option A) (x : Running A) (m : Local ℕ) → running_after n v ≡ Some x → x.local ≡ m → NextAt n m
goes_to (Next.Step l t o) v x m goes back = not_back x goes back
goes_to (Next.Reply y spare) v x m goes back = cc

-- a call that goes back has no fewer steps before it
no_fewer : {A : Type 0} (c : Chain A) (n : Next ℕ) (m : Local ℕ) (most : ℕ) → most ≤ rank c m → NextAt n m → Falls c n most → ⊥
no_fewer c (Next.Step l t o) m most low goes falls = let same : rank c l ≡ rank c m = ap (λ z. rank c z) goes in omega (arith, falls, same, low)
no_fewer c (Next.Reply x spare) m most low goes falls = goes

mover_links : (l : Local ℕ) → IsToMoveTail l → IsToLink l
mover_links (Local.Chain (chain.Laying d tail block fresh)) h = tt
mover_links (Local.Chain (chain.Opening d tail block fresh)) h = tt
mover_links _ h = absurd h

-- the steps at which a call can go back, each with its number
abbrev row_of : Local ℕ → ℕ
row_of (Local.Chain (chain.PushTail d spare)) = 1
row_of (Local.Chain chain.PopHead) = 2
row_of (Local.Chain (chain.PopTail head block)) = 3
row_of (Local.Chain (chain.Following head block)) = 4
row_of (Local.Chain (chain.Awaiting head block)) = 5
row_of _ = 0

pub other_row : (l m : Local ℕ) → (row_of l == row_of m) ≡ false → l ≡ m → ⊥
other_row l m other same = apart row_of l m other same

-- U1: the tail is read
push_row : {A : Type 0} {c : Chain A} {who : ℕ} {ms : List (State A)} {k : Stand A} (d : PushKind) (spare : Option ℕ) → At c who ms k → (a : Answer ℕ) → Answers c k.op a
    → k.local ≡ Local.Chain (chain.PushTail d spare) → NextAt (chain_next (chain_of k.local) a) (Local.Chain (chain.PushTail d spare)) → Held c IsToMoveTail
push_row {c = c} d spare (push_tail e v own none spare_is) a found is goes =
    let same : own ≡ spare = cc in
    let as_late = ap (late (tail_word c)) same in
    held_if c Tail IsToMoveTail
    (λ free. no_fewer c (chain_tail_found e (tail_word c) own) (Local.Chain (chain.PushTail d spare)) (10 + late (tail_word c) own) (omega (arith, as_late))
    (subst (λ b. NextAt (chain_next (chain.PushTail e own) b) (Local.Chain (chain.PushTail d spare))) found goes) (push_tail_falls c e own (rests_if c.mover free)))
    (λ l h. h)
push_row d spare _ a found is goes = absurd (other_row _ _ refl is)

-- V1: the head is read
pop_row : {A : Type 0} {c : Chain A} {who : ℕ} {ms : List (State A)} {k : Stand A} → At c who ms k → (a : Answer ℕ) → Answers c k.op a
    → k.local ≡ Local.Chain chain.PopHead → NextAt (chain_next (chain_of k.local) a) (Local.Chain chain.PopHead) → Held c IsToMoveHead
pop_row {c = c} (pop_head none) a found is goes =
    held_if c Head IsToMoveHead
    (λ free. no_fewer c (chain_head_found (head_word c)) (Local.Chain chain.PopHead) (BLOCK_SLOTS + 8) (omega arith)
    (subst (λ b. NextAt (chain_next chain.PopHead b) (Local.Chain chain.PopHead)) found goes) (head_falls c (stands_if c.passer free)))
    (λ l h. h)
pop_row _ a found is goes = absurd (other_row _ _ refl is)

-- V3: the tail is read, after no block was
first_row : {A : Type 0} {c : Chain A} {who : ℕ} {ms : List (State A)} {k : Stand A} (head : ℕ) → At c who ms k → (a : Answer ℕ) → ChainOk c → Answers c k.op a
    → is_seen c.shown ≡ false → k.local ≡ Local.Chain (chain.PopTail head None) → NextAt (chain_next (chain_of k.local) a) (Local.Chain chain.PopHead) → Held c IsToShow
first_row {c = c} head (pop_tail n None none is front) a ok found unseen at goes =
    held_if c First IsToShow
    (λ free.
    let one : rank c (Local.Chain (chain.PopTail (head_of n false) None)) ≡ 1 = rw (eq-eqb (position_of (tail_word c)) 0 (unshown_place c ok free unseen)) refl in
    no_fewer c (chain_pop_tail_found (head_of n false) None (tail_word c)) (Local.Chain chain.PopHead) (rank c (Local.Chain (chain.PopTail (head_of n false) None))) (omega (arith, one))
    (subst (λ b. NextAt (chain_next (chain.PopTail (head_of n false) None) b) (Local.Chain chain.PopHead)) found goes) (pop_tail_falls c n None ok is))
    (λ l h. h)
first_row head (pop_tail n (Some block) none is front) a ok found unseen at goes = cc
first_row head _ a ok found unseen at goes = absurd (other_row _ _ refl at)

-- V5: the next block is read, which a push has to link
link_held : {A : Type 0} (c : Chain A) (who n head name : ℕ) (m : Local ℕ) → ChainOk c → (c.passer ≡ Passing who) × (c.head ≡ n + 1) → BLOCK_SLOTS + 4 ≤ rank c m
    → NextAt (followed head name (linked_of (c.links (n / BLOCK_SLOTS)) (c.names (n / BLOCK_SLOTS + 1)))) m → Held c IsToLink
link_held {A} c who n head name m ok pass low goes = go (owner c Tail) refl
  where
    go : (z : Option ℕ) → owner c Tail ≡ z → Held c IsToLink
    go (Some p) e = (p, (Tail, e, mover_links))
    go None e =
        held_if c (cells.Next (n / BLOCK_SLOTS)) IsToLink
        (λ free. no_fewer c (followed head name (linked_of (c.links (n / BLOCK_SLOTS)) (c.names (n / BLOCK_SLOTS + 1)))) m (BLOCK_SLOTS + 4) low goes
        (following_falls c who n head name ok (rests_if c.mover (λ p is. let no : None ≡ Some p = sym e ∙ is in cc)) free pass))
        (λ l h. h)

link_row : {A : Type 0} {c : Chain A} {who : ℕ} {ms : List (State A)} {k : Stand A} (head block : ℕ) → At c who ms k → (a : Answer ℕ) → ChainOk c → Answers c k.op a
    → k.local ≡ Local.Chain (chain.Following head block) → NextAt (chain_next (chain_of k.local) a) (Local.Chain (chain.Following head block)) → Held c IsToLink
link_row {c = c} {who = who} head block (following x n name more holds got pass) a ok found is goes =
    link_held c who n (head_of n more) name (Local.Chain (chain.Following head block)) ok pass (omega arith)
    (subst (λ b. NextAt (chain_next (chain.Following (head_of n more) name) b) (Local.Chain (chain.Following head block))) (found (n / BLOCK_SLOTS) got.named) goes)
link_row head block _ a ok found is goes = absurd (other_row _ _ refl is)

-- V9: the slot's state is read, which the push of the item has to set
item_row : {A : Type 0} {c : Chain A} {who : ℕ} {ms : List (State A)} {k : Stand A} (head block : ℕ) → At c who ms k → (a : Answer ℕ) → ChainOk c → Answers c k.op a
    → k.local ≡ Local.Chain (chain.Awaiting head block) → NextAt (chain_next (chain_of k.local) a) (Local.Chain (chain.Awaiting head block)) → Held c IsToWrite
item_row {c = c} {who = who} head block (awaiting x n name more holds got) a ok found is goes =
    let h = found (n / BLOCK_SLOTS) got.named in
    let state : IsState c (n / BLOCK_SLOTS) (n % BLOCK_SLOTS) h.0 = subst (λ i. IsState c (n / BLOCK_SLOTS) i h.0) (head_offset n more) h.2 in
    held_if c (Write n) IsToWrite
    (λ free. no_fewer c (written_found (head_of n more) name h.0) (Local.Chain (chain.Awaiting head block)) BLOCK_SLOTS (omega arith)
    (subst (λ b. NextAt (chain_next (chain.Awaiting (head_of n more) name) b) (Local.Chain (chain.Awaiting head block))) h.1 goes)
    (awaiting_falls c (head_of n more) name h.0 (state.written ∙ (ap (λ m. not (is_wrote (c.writers m))) (own_item n) ∙ ap not (wrote_then c who n ok free got.mine)))))
    (λ l h. h)
item_row head block _ a ok found is goes = absurd (other_row _ _ refl is)

pub unseen_if : (x : Shown) (name : ℕ) → shown_of x name ≡ None → is_seen x ≡ false
unseen_if Seen name e = cc
unseen_if x name e = refl

module _ {A : Type 0} (parties : ℕ) (w : World (MemoryState A) (Running A)) (st : ℕ → Standing) (h : Here A Kind.Unbounded (chain_rules A) parties w st) where
  -- the party that holds a part is in a call, and stands where it holds it
  pub holder : (x : Part) (who : ℕ) (r : Option (Running A)) (y : Option (Open A)) → Party A Kind.Unbounded (chain_rules A) parties h.b.busy w.shared h.b.queue h.sim.g who r y → owner h.sim.g x ≡ Some who
      → (s : Running A) × (r ≡ Some s) × HolderAt x s.local
  holder x who None None idle e = absurd (idle.0 x e)
  holder x who (Some r) (Some o) f e = (r, refl, holds_at x f.here e)
  holder x who r y f e = absurd f

  found_by : (p : ℕ) (r : Running A) (Such : Local ℕ → Type 0) → call_at w p ≡ Some r → Held h.sim.g Such → (Such r.local → ⊥) → IsBeside w p Such
  found_by p r Such is held never =
      let by = holder held.1.0 held.0 (call_at w held.0) (h.b.open_call held.0) (h.sim.each held.0) held.1.1 in
      beside w p held.0 r by.0 Such is by.1 (held.1.2 by.0.local by.2) never

  -- a call that goes on at this step does so by what it finds
  row : (p : ℕ) (r x : Running A) (m : Local ℕ) (Such : Local ℕ → Type 0) → call_at w p ≡ Some r → GoesOn Kind.Unbounded w.shared r x → x.local ≡ m → (Such r.local → ⊥)
      → ((ms : List (State A)) (k : Call A) (es : List (Effect A)) → At h.sim.g p ms (stand_of r k es) → (a : Answer ℕ) → Answers h.sim.g r.op a → NextAt (chain_next (chain_of r.local) a) m → Held h.sim.g Such)
      → IsBeside w p Such
  row p r x m Such is goes back never held =
      let o = party-open A Kind.Unbounded (chain_rules A) parties h.b.busy w.shared h.b.queue h.sim.g p (call_at w p) (h.b.open_call p) r (h.sim.each p) is in
      let step = steps_stand A true w.shared h.b.queue h.sim.g p o.0.moments r o.0.call o.0.effects h.sim.holds o.2.here o.2.spares in
      let went : next_after Kind.Unbounded true w.shared r ≡ next_on true w.shared r = ap (λ l. next_of Kind.Unbounded l (answer_to true w.shared r)) (is_chain o.2.here) in
      let there = subst (λ n. running_after n (carried_then w.shared r) ≡ Some x) went goes in
      found_by p r Such is
      (held o.0.moments o.0.call o.0.effects o.2.here (answer_to true w.shared r) step.found (goes_to (next_on true w.shared r) (carried_then w.shared r) x m there back))
      never

pub chain_waits : (A : Type 0) → ChainCallsWait A
chain_waits A parties p past r x is goes =
    let k = Kind.Unbounded in
    let st : ℕ → Standing = λ q. stands_by q Between past (told_of k (opening_world k parties) past) in
    let w = world_after k (opening_world k parties) past in
    let h = reach A k (chain_rules A) parties (opening_world k parties) (λ q. Between) past (first A k (chain_rules A) parties) in
    let ok = h.sim.holds.ok in
    record {
      push = λ d spare at_it back. row parties w st h p r x (Local.Chain (chain.PushTail d spare)) IsToMoveTail is goes back (λ such. subst IsToMoveTail at_it such)
          (λ ms c es here a found. push_row d spare here a found at_it);
      pop = λ at_it back. row parties w st h p r x (Local.Chain chain.PopHead) IsToMoveHead is goes back (λ such. subst IsToMoveHead at_it such)
          (λ ms c es here a found. pop_row here a found at_it);
      first = λ head at_it none back. row parties w st h p r x (Local.Chain chain.PopHead) IsToShow is goes back (λ such. subst IsToShow at_it such)
          (λ ms c es here a found. first_row head here a ok found (unseen_if h.sim.g.shown (h.sim.g.names h.sim.g.front) (sym (ap (λ e. e.front) h.sim.holds.codes.ends) ∙ none)) at_it);
      link = λ head block at_it back. row parties w st h p r x (Local.Chain (chain.Following head block)) IsToLink is goes back (λ such. subst IsToLink at_it such)
          (λ ms c es here a found. link_row head block here a ok found at_it);
      item = λ head block at_it back. row parties w st h p r x (Local.Chain (chain.Awaiting head block)) IsToWrite is goes back (λ such. subst IsToWrite at_it such)
          (λ ms c es here a found. item_row head block here a ok found at_it);
    }
