-- A ring: who waits for whom, step by step.
use Rattle.std.proofs.Common.{ℕ, ◌+◌, ◌%◌, ◌<◌, ◌≤◌, ◌≡◌, ◌≢◌, ◌==◌, ◌⊎◌, inl, inr, ◌∙◌, if◌then◌else◌, Bool, true, false, Option, Some, None, List, length, refl, sym, ap, subst, arith}
use Rattle.std.proofs.lemmas.{Bool.eq-eqb, Bool.Decides.eqb_tells, Option.none-some}
use Rattle.queue_steps.specs.{State.State, RingNext.push_stamp_found, RingNext.pop_stamp_found, Words.IsRing, Words.position_of, Words.slot_at}
use Rattle.machine_replay.specs.Vocabulary.{Kind, Word, Op, Touch, Local, Next, PushKind, RingLocal, Running}
use Rattle.queue_laws.proofs.{Common.Tails.position_tail, Ring.RingStart.holds_none, Ring.RingCells.together, Ring.RingCells.wraps, Ring.RingTransitions.in_ring}
use Rattle.queue_laws.specs.{Common.Stand.Stand, Ring.RingAt.At, Ring.RingAt.push_stamp, Ring.RingAt.filling, Ring.RingAt.arriving, Ring.RingAt.swapping, Ring.RingAt.pop_stamp, Ring.RingAt.emptying, Ring.RingWords.stamp_in}
use Rattle.queue_laws.specs.Ring.RingCells.{Cell, Free, Written, Full, Read, Coming, Swapped, Ring, CellOk, owner}
use Rattle.machine_steps.specs.{Left.opening_world, Steps.step_of, Steps.running_after, World.World, World.call_at}
use Rattle.machine_memory.specs.SharedMemory.{MemoryState, word_at}
use Rattle.machine_replay.specs.{Book.Open, Played.told_of, Played.world_after, Progress.Standing, Progress.Between, Progress.stands_by, Waits.RingCallsWait, Waits.IsBeside, Waits.GoesOn, Waits.GoesOnTwice, Waits.IsPushToStamp, Waits.HasFront, Waits.HasLastLap, Waits.IsToFill}
use Rattle.machine_replay.proofs.{Progress.Beside.apart, Progress.Beside.beside, Progress.Beside.not_back, Progress.Beside.same_call, Ring.Kind.ring_rules, Progress.Stretch.Here, Progress.Stretch.Party, Progress.Stretch.reach, Progress.Stretch.first, Progress.Stretch.party-open}

-- where a call stands that has a slot
abbrev HolderAt : {A : Type 0} → Cell A → Local ℕ → Type 0
HolderAt (Written q who v) l = IsToFill l
HolderAt (Read q who x) l = l ≡ Local.Ring RingLocal.Emptying
HolderAt (Coming q who old v) l = (t : ℕ) × (l ≡ Local.Ring (RingLocal.Arriving t))
HolderAt (Swapped q who old v) l = l ≡ Local.Ring RingLocal.Swapping
HolderAt x l = ⊥

holds_at : {A : Type 0} {cap : ℕ} {r : Ring A} {who : ℕ} {ms : List (State A)} {was : Bool} {c : Stand A} (i : ℕ) → At cap r who ms was c → owner (r.cells i) ≡ Some who → HolderAt (r.cells i) c.local
holds_at {r = r} i (filling d v q one) e = subst (λ c. HolderAt c (Local.Ring (RingLocal.Filling d))) (sym (ap r.cells (one.1 i e) ∙ one.0)) tt
holds_at {r = r} i (arriving old v t h below back one) e = subst (λ c. HolderAt c (Local.Ring (RingLocal.Arriving t))) (sym (ap r.cells (one.1 i e) ∙ one.0)) (t, refl)
holds_at {r = r} i (swapping old v h one) e = subst (λ c. HolderAt c (Local.Ring RingLocal.Swapping)) (sym (ap r.cells (one.1 i e) ∙ one.0)) refl
holds_at {r = r} i (emptying x h one) e = subst (λ c. HolderAt c (Local.Ring RingLocal.Emptying)) (sym (ap r.cells (one.1 i e) ∙ one.0)) refl
holds_at i x e = absurd (holds_none x refl i e)

-- a party has the slot, and stands at such a step
abbrev Waits : {A : Type 0} → Cell A → (Local ℕ → Type 0) → Type 0
Waits c Such = (who : ℕ) × (owner c ≡ Some who) × ((l : Local ℕ) → HolderAt c l → Such l)

fills : (l : Local ℕ) → IsToFill l → IsPushToStamp l
fills (Local.Ring (RingLocal.Filling d)) a = tt
fills _ a = absurd a

module _ {A : Type 0} (cap head tail i : ℕ) (items : List A) (coming : Option A) (wide : 1 < cap) (count : head + length items ≡ tail) (room : tail ≤ head + cap) where
  -- the slot of the tail, which neither is free for it nor has the front of a full ring
  push_cell : (c : Cell A) → i ≡ tail % cap → CellOk cap head tail items coming i c → stamp_in c ≢ tail → stamp_in c + cap ≢ tail + 1 → Waits c IsPushToStamp
  push_cell (Free q) at ok free lapped = let low = ok.1 in let high = ok.2 in absurd (free (sym (together cap tail q (omega arith) (sym at ∙ sym ok.0) low (omega arith))))
  push_cell (Full q x) at ok free lapped =
      let low = ok.1 in let high = ok.2 in
      let same : tail ≡ q + cap = together cap tail (q + cap) (omega arith) (sym at ∙ (sym ok.0 ∙ sym (wraps q cap))) (omega arith) (omega arith) in
      absurd (lapped (omega arith))
  push_cell (Written q who v) at ok free lapped = (who, refl, fills)
  push_cell (Read q who x) at ok free lapped =
      let low = ok.1 in let high = ok.2 in
      let same : tail ≡ q + cap = together cap tail (q + cap) (omega arith) (sym at ∙ (sym ok.0 ∙ sym (wraps q cap))) (omega arith) (omega arith) in
      absurd (lapped (omega arith))
  push_cell (Coming q who old v) at ok free lapped = let same = ok.2 in absurd (lapped (omega arith))
  push_cell (Swapped q who old v) at ok free lapped = (who, refl, λ l a. subst IsPushToStamp (sym a) tt)

  -- the slot of the tail, with the stamp of the lap before, of a ring that is not full
  full_cell : (c : Cell A) → i ≡ tail % cap → CellOk cap head tail items coming i c → stamp_in c + cap ≡ tail + 1 → head + cap ≢ tail → Waits c HasFront
  full_cell (Free q) at ok lapped not_full = let low = ok.1 in absurd (omega (arith, lapped, low, wide))
  full_cell (Full q x) at ok lapped not_full = let low = ok.1 in absurd (not_full (omega (arith, lapped, low, room)))
  full_cell (Written q who v) at ok lapped not_full =
      let low = ok.1 in let high = ok.2 in
      let same : tail ≡ q + cap = together cap tail (q + cap) (omega arith) (sym at ∙ (sym ok.0 ∙ sym (wraps q cap))) (omega arith) (omega arith) in
      absurd (omega (arith, lapped, same))
  full_cell (Read q who x) at ok lapped not_full = (who, refl, λ l a. subst HasFront (sym a) tt)
  full_cell (Coming q who old v) at ok lapped not_full = (who, refl, λ l a. subst HasFront (sym a.1) tt)
  full_cell (Swapped q who old v) at ok lapped not_full = let high = ok.2 in absurd (omega (arith, lapped, high))

  -- the slot of the head, which is neither free for it nor filled
  pop_cell : (c : Cell A) → i ≡ head % cap → CellOk cap head tail items coming i c → stamp_in c ≢ head → stamp_in c ≢ head + 1 → Waits c HasLastLap
  pop_cell (Free q) at ok free filled =
      let low = ok.1 in let high = ok.2 in
      absurd (free (sym (together cap head q (omega arith) (sym at ∙ sym ok.0) (omega arith) (omega arith))))
  pop_cell (Full q x) at ok free filled =
      let low = ok.1 in let high = ok.2 in
      let same : head ≡ q = together cap head q (omega arith) (sym at ∙ sym ok.0) low (omega arith) in
      absurd (filled (omega arith))
  pop_cell (Written q who v) at ok free filled =
      let low = ok.1 in let high = ok.2 in
      absurd (free (sym (together cap head q (omega arith) (sym at ∙ sym ok.0) low (omega arith))))
  pop_cell (Read q who x) at ok free filled = (who, refl, λ l a. subst HasLastLap (sym a) tt)
  pop_cell (Coming q who old v) at ok free filled = (who, refl, λ l a. subst HasLastLap (sym a.1) tt)
  pop_cell (Swapped q who old v) at ok free filled = (who, refl, λ l a. subst HasLastLap (sym a) tt)

  -- a slot of the lap before has no stamp of this one
  last_lap : (q : ℕ) → i ≡ head % cap → q % cap ≡ i → head ≤ q + cap → q < head → q + 1 ≢ head
  last_lap q at slot low high e =
      let same : head ≡ q + cap = together cap head (q + cap) (omega arith) (sym at ∙ (sym slot ∙ sym (wraps q cap))) low (omega arith) in
      omega (arith, same, e, wide)

  -- the slot of the head, with the stamp of a free one, of a ring that is not empty
  empty_cell : (c : Cell A) → i ≡ head % cap → CellOk cap head tail items coming i c → stamp_in c ≡ head → tail ≢ head → Waits c IsToFill
  empty_cell (Free q) at ok free some = let low = ok.1 in absurd (some (omega (arith, free, low, count)))
  empty_cell (Full q x) at ok free some = let low = ok.1 in absurd (omega (arith, free, low))
  empty_cell (Written q who v) at ok free some = (who, refl, λ l a. a)
  empty_cell (Read q who x) at ok free some = let low = ok.1 in let high = ok.2 in absurd (last_lap q at ok.0 (omega arith) low free)
  empty_cell (Coming q who old v) at ok free some = let low = ok.1 in let high = ok.2 in absurd (last_lap q at ok.0 (omega arith) low free)
  empty_cell (Swapped q who old v) at ok free some = let low = ok.1 in let high = ok.2 in absurd (last_lap q at ok.0 low (omega arith) free)

abbrev EqualTells : ℕ → ℕ → Type 0
EqualTells a b = (((a == b) ≡ true) × (a ≡ b)) ⊎ (((a == b) ≡ false) × (a ≢ b))

-- the steps that a call comes from and goes back to, each with its number
abbrev stage : Local ℕ → ℕ
stage (Local.Ring (RingLocal.PushTail d)) = 1
stage (Local.Ring (RingLocal.PushStamp d tail)) = 2
stage (Local.Ring RingLocal.PopHead) = 3
stage (Local.Ring (RingLocal.PopStamp head)) = 4
stage _ = 0

-- what a push does by the stamp that it finds: one step
push_found : {A : Type 0} (n : ℕ) (d : PushKind) (t stamp : ℕ) (v : Option A) (x : Running A) → running_after (push_stamp_found n d t stamp) v ≡ Some x → x.local ≡ Local.Ring (RingLocal.PushTail d)
    → (stamp ≢ position_of t) × (stamp + n ≢ position_of t + 1)
push_found {A} n d t stamp v x goes back = go (eqb_tells stamp (position_of t)) (eqb_tells (stamp + n) (position_of t + 1)) d goes back
  where
    go : EqualTells stamp (position_of t) → EqualTells (stamp + n) (position_of t + 1) → (d : PushKind) → running_after (push_stamp_found n d t stamp) v ≡ Some x → x.local ≡ Local.Ring (RingLocal.PushTail d) → (stamp ≢ position_of t) × (stamp + n ≢ position_of t + 1)
    go (inr a) (inr b) d goes back = (a.1, b.1)
    go (inl a) b d goes back = let f = not_back x (rw a.0 at goes) back in absurd (apart stage _ _ refl f)
    go (inr a) (inl b) PushKind.Push goes back = let f = not_back x (rw (a.0, b.0) at goes) back in absurd (apart stage _ _ refl f)
    go (inr a) (inl b) PushKind.Force goes back = let f = not_back x (rw (a.0, b.0) at goes) back in absurd (apart stage _ _ refl f)

-- a test that goes on another way
other_way : {A : Type 0} (a b : ℕ) (m l : Next ℕ) (v : Option A) (y : Running A) → (running_after m v ≡ Some y → ⊥) → running_after (if a == b then m else l) v ≡ Some y → a ≢ b
other_way a b m l v y never goes = elim (eqb_tells a b) [ inl t ↦ absurd (never (rw t.0 at goes)) | inr t ↦ t.1 ]

-- and two
full_found : {A : Type 0} (n : ℕ) (d : PushKind) (t stamp : ℕ) (v : Option A) (s : MemoryState A) (x y : Running A) → s.tail ≡ t → running_after (push_stamp_found n d t stamp) v ≡ Some x → (x.local ≡ Local.Ring (RingLocal.PushTail d) → ⊥)
    → (step_of (Kind.Bounded n) true s x).call ≡ Some y → y.local ≡ Local.Ring (RingLocal.PushTail d) → (stamp + n ≡ position_of t + 1) × (s.head + n ≢ position_of t)
full_found {A} n d t stamp v s x y tail goes never on back = go (eqb_tells stamp (position_of t)) (eqb_tells (stamp + n) (position_of t + 1)) d goes never back
  where
    from : (z : Running A) → z ≡ x → (step_of (Kind.Bounded n) true s z).call ≡ Some y
    from z is = subst (λ u. (step_of (Kind.Bounded n) true s u).call ≡ Some y) (sym is) on

    go : EqualTells stamp (position_of t) → EqualTells (stamp + n) (position_of t + 1) → (d : PushKind) → running_after (push_stamp_found n d t stamp) v ≡ Some x
        → (x.local ≡ Local.Ring (RingLocal.PushTail d) → ⊥) → y.local ≡ Local.Ring (RingLocal.PushTail d) → (stamp + n ≡ position_of t + 1) × (s.head + n ≢ position_of t)
    go (inl a) b d goes never back =
        let is = same_call x (rw a.0 at goes) in
        let filled = rw (eq-eqb s.tail t tail) at (from _ is) in
        let f = not_back y filled back in absurd (apart stage _ _ refl f)
    go (inr a) (inl b) PushKind.Push goes never back =
        let is = same_call x (rw (a.0, b.0) at goes) in
        (b.1, other_way (s.head + n) (position_of t) _ _ v y (λ g. none-some y g) (from _ is))
    go (inr a) (inl b) PushKind.Force goes never back =
        let is = same_call x (rw (a.0, b.0) at goes) in
        (b.1, other_way (s.head + n) (position_of t) _ _ v y (λ g. let f = not_back y g back in apart stage _ _ refl f) (from _ is))
    go (inr a) (inr b) d goes never back = absurd (never (let is = same_call x (rw (a.0, b.0) at goes) in ap (λ z. z.local) (sym is)))

-- what a pop does by the stamp that it finds: one step
pop_found : {A : Type 0} (h stamp : ℕ) (v : Option A) (x : Running A) → running_after (pop_stamp_found h stamp) v ≡ Some x → x.local ≡ Local.Ring RingLocal.PopHead → (stamp ≢ h) × (stamp ≢ h + 1)
pop_found {A} h stamp v x goes back = go (eqb_tells stamp (h + 1)) (eqb_tells stamp h)
  where
    go : EqualTells stamp (h + 1) → EqualTells stamp h → (stamp ≢ h) × (stamp ≢ h + 1)
    go (inr a) (inr b) = (b.1, a.1)
    go (inl a) b = let f = not_back x (rw a.0 at goes) back in absurd (apart stage _ _ refl f)
    go (inr a) (inl b) = let f = not_back x (rw (a.0, b.0) at goes) back in absurd (apart stage _ _ refl f)

-- and two
empty_found : {A : Type 0} (n h stamp : ℕ) (v : Option A) (s : MemoryState A) (x y : Running A) → s.head ≡ h → running_after (pop_stamp_found h stamp) v ≡ Some x → (x.local ≡ Local.Ring RingLocal.PopHead → ⊥)
    → (step_of (Kind.Bounded n) true s x).call ≡ Some y → y.local ≡ Local.Ring RingLocal.PopHead → (stamp ≡ h) × (position_of s.tail ≢ h)
empty_found {A} n h stamp v s x y head goes never on back = go (eqb_tells stamp (h + 1)) (eqb_tells stamp h)
  where
    from : (z : Running A) → z ≡ x → (step_of (Kind.Bounded n) true s z).call ≡ Some y
    from z is = subst (λ u. (step_of (Kind.Bounded n) true s u).call ≡ Some y) (sym is) on

    go : EqualTells stamp (h + 1) → EqualTells stamp h → (stamp ≡ h) × (position_of s.tail ≢ h)
    go (inl a) b =
        let is = same_call x (rw a.0 at goes) in
        let emptied = rw (eq-eqb s.head h head) at (from _ is) in
        let f = not_back y emptied back in absurd (apart stage _ _ refl f)
    go (inr a) (inl b) =
        let is = same_call x (rw (a.0, b.0) at goes) in
        (b.1, other_way (position_of s.tail) h _ _ v y (λ g. none-some y g) (from _ is))
    go (inr a) (inr b) = absurd (never (let is = same_call x (rw (a.0, b.0) at goes) in ap (λ z. z.local) (sym is)))

-- what is read at the stamp's step
push_reads : {A : Type 0} {cap : ℕ} {r : Ring A} {who : ℕ} {ms : List (State A)} {was : Bool} {c : Stand A} (d : PushKind) (q : ℕ) → At cap r who ms was c → c.local ≡ Local.Ring (RingLocal.PushStamp d q)
    → (c.touch ≡ Touch.Nothing) × (c.op ≡ Op.Load (Word.Stamp (slot_at cap (position_of q))))
push_reads {cap = cap} d q (push_stamp e v t none saw) is = let same : t ≡ q = cc in (refl, ap (λ z. Op.Load (Word.Stamp (slot_at cap (position_of z)))) same)
push_reads d q _ is = absurd (apart stage _ _ refl is)

pop_reads : {A : Type 0} {cap : ℕ} {r : Ring A} {who : ℕ} {ms : List (State A)} {was : Bool} {c : Stand A} (q : ℕ) → At cap r who ms was c → c.local ≡ Local.Ring (RingLocal.PopStamp q)
    → (c.touch ≡ Touch.Nothing) × (c.op ≡ Op.Load (Word.Stamp (slot_at cap q)))
pop_reads {cap = cap} q (pop_stamp h none low) is = let same : h ≡ q = cc in (refl, ap (λ z. Op.Load (Word.Stamp (slot_at cap z))) same)
pop_reads q _ is = absurd (apart stage _ _ refl is)

-- a call that is about to read a stamp
reading : {A : Type 0} → Local ℕ → ℕ → Option A → Running A
reading l i v = record { local = l; touch = Touch.Nothing; op = Op.Load (Word.Stamp i); carried = v }

as_reading : {A : Type 0} (r : Running A) (l : Local ℕ) (i : ℕ) → r.local ≡ l → r.touch ≡ Touch.Nothing → r.op ≡ Op.Load (Word.Stamp i) → r ≡ reading l i r.carried
unfolding reading
as_reading {A} r l i a b c = ap (λ z. made z r.touch r.op) a ∙ (ap (λ z. made l z r.op) b ∙ ap (λ z. made l Touch.Nothing z) c)
  where
    made : Local ℕ → Touch → Op ℕ → Running A
    made l t o = record { local = l; touch = t; op = o; carried = r.carried }

module _ {A : Type 0} (cap : ℕ) (ring : IsRing cap) (parties : ℕ) (w : World (MemoryState A) (Running A)) (st : ℕ → Standing) (h : Here A (Kind.Bounded cap) (ring_rules cap ring) parties w st) where
  -- the party that has a slot is in a call, and stands where it stamps it
  holder : (i who : ℕ) (x : Option (Running A)) (y : Option (Open A)) → Party A (Kind.Bounded cap) (ring_rules cap ring) parties h.b.busy w.shared h.b.queue h.sim.g who x y → owner (h.sim.g.cells i) ≡ Some who
      → (r : Running A) × (x ≡ Some r) × HolderAt (h.sim.g.cells i) r.local
  holder i who None None idle e = absurd (idle i e)
  holder i who (Some r) (Some o) f e = (r, refl, holds_at i f.here e)
  holder i who x y f e = absurd f

  found : (i p : ℕ) (r : Running A) (Such : Local ℕ → Type 0) → call_at w p ≡ Some r → Waits (h.sim.g.cells i) Such → (Such r.local → ⊥) → IsBeside w p Such
  found i p r Such is waits never =
      let by = holder i waits.0 (call_at w waits.0) (h.b.open_call waits.0) (h.sim.each waits.0) waits.1 in
      beside w p waits.0 r by.0 Such is by.1 (waits.2 by.0.local by.2) never

  stamp_is : (q : ℕ) → word_at w.shared (Word.Stamp (slot_at cap q)) ≡ stamp_in (h.sim.g.cells (q % cap))
  stamp_is q = h.sim.holds.codes.stamp (q % cap) (in_ring cap q ring)

  tail_is : position_of w.shared.tail ≡ h.sim.g.tail
  tail_is = ap position_of h.sim.holds.codes.tail ∙ position_tail h.sim.g.tail h.sim.g.closed

  wide : 1 < cap
  wide = ring.0

  -- the call that reads the stamp
  pushing : (p : ℕ) (r : Running A) (d : PushKind) → call_at w p ≡ Some r → r.local ≡ Local.Ring (RingLocal.PushStamp d w.shared.tail) → r ≡ reading (Local.Ring (RingLocal.PushStamp d w.shared.tail)) (slot_at cap (position_of w.shared.tail)) r.carried
  pushing p r d is at_it =
      let o = party-open A (Kind.Bounded cap) (ring_rules cap ring) parties h.b.busy w.shared h.b.queue h.sim.g p (call_at w p) (h.b.open_call p) r (h.sim.each p) is in
      let reads = push_reads d w.shared.tail o.2.here at_it in
      as_reading r (Local.Ring (RingLocal.PushStamp d w.shared.tail)) (slot_at cap (position_of w.shared.tail)) at_it reads.0 reads.1

  popping : (p : ℕ) (r : Running A) → call_at w p ≡ Some r → r.local ≡ Local.Ring (RingLocal.PopStamp w.shared.head) → r ≡ reading (Local.Ring (RingLocal.PopStamp w.shared.head)) (slot_at cap w.shared.head) r.carried
  popping p r is at_it =
      let o = party-open A (Kind.Bounded cap) (ring_rules cap ring) parties h.b.busy w.shared h.b.queue h.sim.g p (call_at w p) (h.b.open_call p) r (h.sim.each p) is in
      let reads = pop_reads w.shared.head o.2.here at_it in
      as_reading r (Local.Ring (RingLocal.PopStamp w.shared.head)) (slot_at cap w.shared.head) at_it reads.0 reads.1

  push_on : (p : ℕ) (r x : Running A) (d : PushKind) → call_at w p ≡ Some r → r.local ≡ Local.Ring (RingLocal.PushStamp d w.shared.tail) → GoesOn (Kind.Bounded cap) w.shared r x
      → running_after (push_stamp_found cap d w.shared.tail (word_at w.shared (Word.Stamp (slot_at cap (position_of w.shared.tail))))) r.carried ≡ Some x
  unfolding reading
  push_on p r x d is at_it goes = subst (λ z. (step_of (Kind.Bounded cap) true w.shared z).call ≡ Some x) (pushing p r d is at_it) goes

  pop_on : (p : ℕ) (r x : Running A) → call_at w p ≡ Some r → r.local ≡ Local.Ring (RingLocal.PopStamp w.shared.head) → GoesOn (Kind.Bounded cap) w.shared r x
      → running_after (pop_stamp_found w.shared.head (word_at w.shared (Word.Stamp (slot_at cap w.shared.head)))) r.carried ≡ Some x
  unfolding reading
  pop_on p r x is at_it goes = subst (λ z. (step_of (Kind.Bounded cap) true w.shared z).call ≡ Some x) (popping p r is at_it) goes

  -- a read leaves the words
  words_same : (r : Running A) (l : Local ℕ) (i : ℕ) → r ≡ reading l i r.carried → ((step_of (Kind.Bounded cap) true w.shared r).shared.head ≡ w.shared.head) × ((step_of (Kind.Bounded cap) true w.shared r).shared.tail ≡ w.shared.tail)
  unfolding reading
  words_same r l i e = (ap (λ z. (step_of (Kind.Bounded cap) true w.shared z).shared.head) e, ap (λ z. (step_of (Kind.Bounded cap) true w.shared z).shared.tail) e)

  push_row : (p : ℕ) (r x : Running A) (d : PushKind) → call_at w p ≡ Some r → r.local ≡ Local.Ring (RingLocal.PushStamp d w.shared.tail) → GoesOn (Kind.Bounded cap) w.shared r x → x.local ≡ Local.Ring (RingLocal.PushTail d) → IsBeside w p IsPushToStamp
  push_row p r x d is at_it goes back =
      let g = h.sim.g in let ok = h.sim.holds.ok in let q = position_of w.shared.tail in
      let f = push_found cap d w.shared.tail (word_at w.shared (Word.Stamp (slot_at cap q))) r.carried x (push_on p r x d is at_it goes) back in
      found (q % cap) p r IsPushToStamp is
      (push_cell cap g.head g.tail (q % cap) g.items g.coming wide ok.count ok.room (g.cells (q % cap)) (ap (λ n. n % cap) tail_is) (ok.cell (q % cap) (in_ring cap q ring)) (λ e. f.0 (stamp_is q ∙ (e ∙ sym tail_is))) (λ e. f.1 (ap (λ n. n + cap) (stamp_is q) ∙ (e ∙ ap (λ n. n + 1) (sym tail_is)))))
      (λ such. subst IsPushToStamp at_it such)

  full_row : (p : ℕ) (r x y : Running A) (d : PushKind) → call_at w p ≡ Some r → r.local ≡ Local.Ring (RingLocal.PushStamp d w.shared.tail)
      → GoesOnTwice (Kind.Bounded cap) w.shared r x y → (x.local ≡ Local.Ring (RingLocal.PushTail d) → ⊥) → y.local ≡ Local.Ring (RingLocal.PushTail d) → IsBeside w p HasFront
  full_row p r x y d is at_it goes never back =
      let g = h.sim.g in let ok = h.sim.holds.ok in let q = position_of w.shared.tail in
      let s = (step_of (Kind.Bounded cap) true w.shared r).shared in
      let words = words_same r _ _ (pushing p r d is at_it) in
      let f = full_found cap d w.shared.tail (word_at w.shared (Word.Stamp (slot_at cap q))) r.carried s x y words.1 (push_on p r x d is at_it goes.0) never goes.1 back in
      found (q % cap) p r HasFront is
      (full_cell cap g.head g.tail (q % cap) g.items g.coming wide ok.count ok.room (g.cells (q % cap)) (ap (λ n. n % cap) tail_is) (ok.cell (q % cap) (in_ring cap q ring)) (ap (λ n. n + cap) (sym (stamp_is q)) ∙ (f.0 ∙ ap (λ n. n + 1) tail_is))
      (λ e. f.1 (ap (λ n. n + cap) (words.0 ∙ h.sim.holds.codes.head) ∙ (e ∙ sym tail_is))))
      (λ such. subst HasFront at_it such)

  pop_row : (p : ℕ) (r x : Running A) → call_at w p ≡ Some r → r.local ≡ Local.Ring (RingLocal.PopStamp w.shared.head) → GoesOn (Kind.Bounded cap) w.shared r x → x.local ≡ Local.Ring RingLocal.PopHead → IsBeside w p HasLastLap
  pop_row p r x is at_it goes back =
      let g = h.sim.g in let ok = h.sim.holds.ok in let q = w.shared.head in let head = h.sim.holds.codes.head in
      let f = pop_found q (word_at w.shared (Word.Stamp (slot_at cap q))) r.carried x (pop_on p r x is at_it goes) back in
      found (q % cap) p r HasLastLap is
      (pop_cell cap g.head g.tail (q % cap) g.items g.coming wide ok.count ok.room (g.cells (q % cap)) (ap (λ n. n % cap) head) (ok.cell (q % cap) (in_ring cap q ring)) (λ e. f.0 (stamp_is q ∙ (e ∙ sym head))) (λ e. f.1 (stamp_is q ∙ (e ∙ ap (λ n. n + 1) (sym head)))))
      (λ such. subst HasLastLap at_it such)

  empty_row : (p : ℕ) (r x y : Running A) → call_at w p ≡ Some r → r.local ≡ Local.Ring (RingLocal.PopStamp w.shared.head) → GoesOnTwice (Kind.Bounded cap) w.shared r x y → (x.local ≡ Local.Ring RingLocal.PopHead → ⊥) → y.local ≡ Local.Ring RingLocal.PopHead → IsBeside w p IsToFill
  empty_row p r x y is at_it goes never back =
      let g = h.sim.g in let ok = h.sim.holds.ok in let q = w.shared.head in let head = h.sim.holds.codes.head in
      let s = (step_of (Kind.Bounded cap) true w.shared r).shared in
      let words = words_same r _ _ (popping p r is at_it) in
      let f = empty_found cap q (word_at w.shared (Word.Stamp (slot_at cap q))) r.carried s x y words.0 (pop_on p r x is at_it goes.0) never goes.1 back in
      found (q % cap) p r IsToFill is
      (empty_cell cap g.head g.tail (q % cap) g.items g.coming wide ok.count ok.room (g.cells (q % cap)) (ap (λ n. n % cap) head) (ok.cell (q % cap) (in_ring cap q ring)) (sym (stamp_is q) ∙ (f.0 ∙ head))
      (λ e. f.1 (ap position_of words.1 ∙ (tail_is ∙ (e ∙ sym head)))))
      (λ such. subst IsToFill at_it such)

pub ring_waits : (A : Type 0) (cap : ℕ) → IsRing cap → RingCallsWait A cap
ring_waits A cap ring parties p past r is =
    let k = Kind.Bounded cap in
    let st : ℕ → Standing = λ q. stands_by q Between past (told_of k (opening_world k parties) past) in
    let w = world_after k (opening_world k parties) past in
    let h = reach A k (ring_rules cap ring) parties (opening_world k parties) (λ q. Between) past (first A k (ring_rules cap ring) parties) in
    record {
      push = λ d x at_it goes back. push_row cap ring parties w st h p r x d is at_it goes back;
      full = λ d x y at_it goes never back. full_row cap ring parties w st h p r x y d is at_it goes never back;
      pop = λ x at_it goes back. pop_row cap ring parties w st h p r x is at_it goes back;
      empty = λ x y at_it goes never back. empty_row cap ring parties w st h p r x y is at_it goes never back;
    }
