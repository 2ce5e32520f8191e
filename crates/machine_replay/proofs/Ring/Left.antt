-- The list that a ring holds, once each call that is about to write has written, is that of the queue.
use Rattle.std.proofs.Common.{ℕ, suc, ◌+◌, ◌-◌, ◌%◌, ◌<◌, ◌≤◌, ◌≡◌, ◌==◌, ◌∙◌, inl, inr, Bool, true, false, Option, Some, None, List, ◌∷◌, length, refl, sym, ap, subst, arith, get_or, slice_get}
use Rattle.std.proofs.lemmas.Bool.{eq-eqb, Decides.eqb_tells}
use Rattle.queue_steps.specs.{State.State, Words.position_of, Words.slot_at}
use Rattle.machine_replay.specs.{Vocabulary.Kind, Vocabulary.Touch, Vocabulary.Running, Book.Book, Book.Open}
use Rattle.queue_laws.proofs.{Common.Tails.position_tail, Ring.RingCells.wraps, Ring.RingCells.apart, Ring.RingIdle.same_position, Ring.RingTransitions.in_ring, Ring.RingStart.holds_none}
use Rattle.machine_steps.specs.{World.World, Steps.CanStep, Steps.step_of, Steps.start_of, Left.left_of, Left.all_written, Left.gathered}
use Rattle.machine_memory.specs.SharedMemory.{MemoryState}
use Rattle.machine_replay.proofs.Engine.Events as engine
use Rattle.machine_replay.proofs.{Engine.KindLaws.SimulatesOf, Ring.Laws.RingHolds, Ring.Laws.RingIdle, Ring.Laws.RingFits}
use Rattle.machine_replay.proofs.Engine.AllWritten.{writes, writes_slot, all_written-none, all_written-one, nth, gathered-items}
use Rattle.queue_laws.specs.{Common.Stand.Stand, Ring.RingWords.item_in, Ring.RingAt.At, Ring.RingAt.filling, Ring.RingAt.arriving, Ring.RingAt.swapping, Ring.RingAt.emptying}
use Rattle.queue_laws.specs.Ring.RingCells.{Cell, Free, Written, Full, Read, Coming, Swapped, Ring, CellOk, RingOk, owner}

-- what a slot will hold that its holder has written: the item of its push
abbrev pub content : {A : Type 0} → Cell A → Option A
content (Free p) = None
content (Written p who v) = Some v
content (Full p x) = Some x
content (Read p who x) = Some x
content (Coming p who old v) = Some old
content (Swapped p who old v) = Some v

-- the cell of a position between the head and the tail holds its item
content_is : {A : Type 0} (cap : ℕ) (r : Ring A) (p : ℕ) → RingOk cap r → r.head ≤ p → p < r.tail → content (r.cells (p % cap)) ≡ slice_get r.items (p - r.head)
content_is {A} cap r p ok low high = go (r.cells (p % cap)) (ok.cell (p % cap) (in_ring cap p ok.ring))
  where
    near : (q : ℕ) → q % cap ≡ p % cap → r.head ≤ q → q < r.tail → q ≡ p
    near q same l h = let wide : 1 < cap = ok.ring.0 in let room = ok.room in same_position cap r.head q p (omega arith) same l (omega arith) low (omega arith)

    go : (c : Cell A) → CellOk cap r.head r.tail r.items r.coming (p % cap) c → content c ≡ slice_get r.items (p - r.head)
    go (Free q) h = let wide : 1 < cap = ok.ring.0 in let a = h.1 in let b = h.2 in absurd (apart cap p q (omega arith) (omega arith) (omega arith) (sym h.0))
    go (Written q who v) h = sym (ap (λ n. slice_get r.items (n - r.head)) (sym (near q h.0 h.1 h.2)) ∙ h.3)
    go (Full q x) h = sym (ap (λ n. slice_get r.items (n - r.head)) (sym (near q h.0 h.1 h.2)) ∙ h.3)
    go (Read q who x) h = let wide : 1 < cap = ok.ring.0 in let a = h.1 in let b = h.2 in absurd (apart cap q p (omega arith) (omega arith) (omega arith) h.0)
    go (Coming q who old v) h = let wide : 1 < cap = ok.ring.0 in let a = h.1 in let b = h.2 in absurd (apart cap q p (omega arith) (omega arith) (omega arith) h.0)
    go (Swapped q who old v) h = sym (ap (λ n. slice_get r.items (n - r.head)) (sym (near (q + cap) (wraps q cap ∙ h.0) h.1 h.2)) ∙ h.3)

-- the call is about to write the slot i
abbrev Writes : Touch → ℕ → Type 0
Writes t i = writes_slot t i ≡ true

same_slot : (i j : ℕ) → (i == j) ≡ true → i ≡ j
same_slot i j e = elim (eqb_tells i j) [ inl t ↦ t.1 | inr f ↦ let no : true ≡ false = sym e ∙ f.0 in cc ]

-- the party is about to write the item v into the slot of its cell
abbrev pub IsWriter : {A : Type 0} → Cell A → ℕ → Option A → Type 0
IsWriter (Written p who v) party x = (who ≡ party) × (x ≡ Some v)
IsWriter (Swapped p who old v) party x = (who ≡ party) × (x ≡ Some v)
IsWriter _ party x = ⊥

-- a call about to write a slot holds it
at_writes : {A : Type 0} {cap : ℕ} {r : Ring A} {who : ℕ} {ms : List (State A)} {was : Bool} {c : Stand A} (i : ℕ)
    → At cap r who ms was c → Writes c.touch i → IsWriter (r.cells i) who c.carried
at_writes {cap = cap} {r = r} {who = who} i (filling d v q one) w =
    let e : q % cap ≡ i = same_slot (q % cap) i w in
    let c : r.cells i ≡ Written q who v = ap r.cells (sym e) ∙ one.0 in
    rw c (refl, refl)
at_writes {cap = cap} {r = r} {who = who} i (swapping old v h one) w =
    let e : h % cap ≡ i = sym (wraps h cap) ∙ same_slot ((h + cap) % cap) i w in
    let c : r.cells i ≡ Swapped h who old v = ap r.cells (sym e) ∙ one.0 in
    rw c (refl, refl)
at_writes i _ w = cc

-- the cell is one that its holder is about to write
abbrev pub IsAwaited : {A : Type 0} → Cell A → Type 0
IsAwaited (Written p who v) = Unit {0}
IsAwaited (Swapped p who old v) = Unit {0}
IsAwaited _ = ⊥

-- the holder of a slot that is to be written is about to write it
at_holder : {A : Type 0} {cap : ℕ} {r : Ring A} {who : ℕ} {ms : List (State A)} {was : Bool} {c : Stand A} (i : ℕ)
    → At cap r who ms was c → owner (r.cells i) ≡ Some who → IsAwaited (r.cells i) → Writes c.touch i
at_holder {cap = cap} i (filling d v q one) own awaited = eq-eqb (q % cap) i (sym (one.1 i own))
at_holder {cap = cap} i (swapping old v h one) own awaited = eq-eqb ((h + cap) % cap) i (wraps h cap ∙ sym (one.1 i own))
at_holder {cap = cap} {r = r} {who = who} i (arriving old v t h below back one) own awaited =
    let e : r.cells i ≡ Coming h who old v = ap r.cells (one.1 i own) ∙ one.0 in
    absurd (subst (λ c. IsAwaited c) e awaited)
at_holder {cap = cap} {r = r} {who = who} i (emptying x h one) own awaited =
    let e : r.cells i ≡ Read h who x = ap r.cells (one.1 i own) ∙ one.0 in
    absurd (subst (λ c. IsAwaited c) e awaited)
at_holder i x own awaited = absurd (holds_none x refl i own)

-- what is so of a party, in a call or not
abbrev RingParty : (A : Type 0) → ℕ → ℕ → MemoryState A → State A → Ring A → ℕ → Option (Running A) → Option (Open A) → Type 0
RingParty A cap = engine.Party A (MemoryState A) (Running A) (Ring A) (Some cap) (step_of (Kind.Bounded cap)) (start_of (Kind.Bounded cap)) (CanStep (Kind.Bounded cap)) (RingHolds cap) RingIdle (RingFits cap)

-- no party writes a slot that is not awaited
party_apart : {A : Type 0} (cap busy : ℕ) (s : MemoryState A) (Q : State A) (g : Ring A) (p : ℕ) (x : Option (Running A)) (y : Option (Open A)) (i : ℕ)
    → RingParty A cap busy s Q g p x y → ((v : Option A) → IsWriter (g.cells i) p v → ⊥) → writes x i ≡ false
party_apart cap busy s Q g p None None i h never = refl
party_apart cap busy s Q g p (Some r) (Some o) i h never =
    elim (writes_slot r.touch i) as (λ b. writes_slot r.touch i ≡ b → b ≡ false) [
      | false ↦ λ e. refl
      | true ↦ λ e. absurd (never r.carried (at_writes i h.here e))
    ] refl
party_apart cap busy s Q g p x y i h never = absurd h

-- the holder of an awaited slot writes it
party_holder : {A : Type 0} (cap busy : ℕ) (s : MemoryState A) (Q : State A) (g : Ring A) (p : ℕ) (x : Option (Running A)) (y : Option (Open A)) (i : ℕ)
    → RingParty A cap busy s Q g p x y → owner (g.cells i) ≡ Some p → IsAwaited (g.cells i)
    → (r : Running A) × (x ≡ Some r) × (writes_slot r.touch i ≡ true) × IsWriter (g.cells i) p r.carried
party_holder cap busy s Q g p None None i h own awaited = absurd (h i own)
party_holder cap busy s Q g p (Some r) (Some o) i h own awaited =
    let w = at_holder i h.here own awaited in (r, refl, w, at_writes i h.here w)
party_holder cap busy s Q g p x y i h own awaited = absurd h

-- an awaited slot has one writer, who writes its item; any other has none
slot_settled : {A : Type 0} (cap parties : ℕ) (w : World (MemoryState A) (Running A)) (b : Book A) → (sim : SimulatesOf A (Kind.Bounded cap) (Ring A) (RingHolds cap) RingIdle (RingFits cap) parties w b)
    → (i : ℕ) → i < cap → get_or (all_written w.calls w.shared.slots) i None ≡ content (sim.g.cells i)
slot_settled {A} cap parties w b sim i lt = go (sim.g.cells i) refl (sim.holds.codes.slot i lt)
  where
    quiet : (c : Cell A) → sim.g.cells i ≡ c → ((p : ℕ) (v : Option A) → IsWriter c p v → ⊥) → get_or w.shared.slots i None ≡ item_in c → content c ≡ item_in c → get_or (all_written w.calls w.shared.slots) i None ≡ content c
    quiet c is never item same =
        all_written-none w.calls w.shared.slots i (λ p. party_apart cap b.busy w.shared b.queue sim.g p (get_or w.calls p None) (b.open_call p) i (sim.each p) (λ v wr. never p v (subst (λ d. IsWriter d p v) is wr)))
        ∙ (item ∙ sym same)

    written : (c : Cell A) (who : ℕ) (x : A) → sim.g.cells i ≡ c → owner c ≡ Some who → IsAwaited c → ((p : ℕ) (v : Option A) → IsWriter c p v → (who ≡ p) × (v ≡ Some x))
        → get_or (all_written w.calls w.shared.slots) i None ≡ Some x
    written c who x is own awaited only =
        let holder = party_holder cap b.busy w.shared b.queue sim.g who (get_or w.calls who None) (b.open_call who) i (sim.each who) (ap owner is ∙ own) (subst (λ d. IsAwaited d) (sym is) awaited) in
        let long : i < length w.shared.slots = rw sim.holds.codes.slotted lt in
        all_written-one w.calls w.shared.slots i who holder.0 long holder.1 holder.2
        (λ p ne. party_apart cap b.busy w.shared b.queue sim.g p (get_or w.calls p None) (b.open_call p) i (sim.each p) (λ v wr. ne (sym (only p v (subst (λ d. IsWriter d p v) is wr)).0)))
        ∙ (only who holder.0.carried (subst (λ d. IsWriter d who holder.0.carried) is holder.3)).1

    go : (c : Cell A) → sim.g.cells i ≡ c → get_or w.shared.slots i None ≡ item_in (sim.g.cells i) → get_or (all_written w.calls w.shared.slots) i None ≡ content (sim.g.cells i)
    go (Free p) is item = quiet (Free p) is (λ p v h. h) (item ∙ ap item_in is) refl ∙ ap content (sym is)
    go (Full p x) is item = quiet (Full p x) is (λ p v h. h) (item ∙ ap item_in is) refl ∙ ap content (sym is)
    go (Read p who x) is item = quiet (Read p who x) is (λ p v h. h) (item ∙ ap item_in is) refl ∙ ap content (sym is)
    go (Coming p who old v) is item = quiet (Coming p who old v) is (λ p v h. h) (item ∙ ap item_in is) refl ∙ ap content (sym is)
    go (Written p who v) is item = written (Written p who v) who v is refl tt (λ p v h. h) ∙ ap content (sym is)
    go (Swapped p who old v) is item = written (Swapped p who old v) who v is refl tt (λ p v h. h) ∙ ap content (sym is)

nth_is : {A : Type 0} (xs : List A) (j : ℕ) → slice_get xs j ≡ nth xs j
nth_is (x ∷ xs) (suc j) = nth_is xs j
nth_is xs j = refl

pub ring_leaves : {A : Type 0} (cap parties : ℕ) (w : World (MemoryState A) (Running A)) (b : Book A) → SimulatesOf A (Kind.Bounded cap) (Ring A) (RingHolds cap) RingIdle (RingFits cap) parties w b
    → left_of (Kind.Bounded cap) w ≡ b.queue.items
ring_leaves {A} cap parties w b sim =
    let g = sim.g in
    let ok = sim.holds.ok in
    let wide : 1 < cap = ok.ring.0 in
    let count = ok.count in
    let room = ok.room in
    let tail : position_of w.shared.tail ≡ g.tail = ap position_of sim.holds.codes.tail ∙ position_tail g.tail g.closed in
    let size : position_of w.shared.tail - w.shared.head ≡ length g.items = let head = sim.holds.codes.head in omega arith in
    let all : (j : ℕ) → j < length g.items → get_or (all_written w.calls w.shared.slots) (slot_at cap (g.head + j)) None ≡ nth g.items j = λ j lt.
    let i = (g.head + j) % cap in
    let back : g.head + j - g.head ≡ j = omega arith in
    slot_settled cap parties w b sim i (in_ring cap (g.head + j) ok.ring)
    ∙ (content_is cap g (g.head + j) ok (omega arith) (omega arith) ∙ (ap (λ n. slice_get g.items n) back ∙ nth_is g.items j)) in
    let at_head : w.shared.head ≡ g.head = sim.holds.codes.head in
    let items : b.queue.items ≡ g.items = ap (λ q. q.items) sim.holds.queue_is in
    ap (λ n. gathered cap w.shared.head n (all_written w.calls w.shared.slots)) size
    ∙ (ap (λ h. gathered cap h (length g.items) (all_written w.calls w.shared.slots)) at_head
    ∙ (gathered-items cap g.head g.items (all_written w.calls w.shared.slots) (omega arith) (omega arith) all ∙ sym items))
