-- One slot: the list that is left, and all that a queue of one slot owes.
use Rattle.std.proofs.Common.{ℕ, ◌<◌, ◌≡◌, ◌≢◌, ◌==◌, ◌⊎◌, ◌∙◌, inl, inr, Bool, true, false, if◌then◌else◌, Option, Some, None, List, [], ◌∷◌, length, refl, sym, ap, arith, get_or}
use Rattle.std.{specs.Option.option_to_list, proofs.lemmas.Bool.eq-eqb, proofs.lemmas.Bool.Decides.eqb_tells}
use Rattle.queue_steps.specs.{SlotNext.is_pushed, State.State}
use Rattle.machine_replay.specs.{Vocabulary.Kind, Vocabulary.Running, Book.Book, Book.Open}
use Rattle.queue_laws.specs.{Common.Stand.Stand, Slot.SlotHolder.SlotHolder, Slot.SlotHolder.Nobody, Slot.SlotHolder.Filling, Slot.SlotHolder.Swapping, Slot.SlotHolder.LockHolder, Slot.SlotHolder.Idle, Slot.SlotHolder.own_of}
use Rattle.queue_laws.specs.Slot.SlotRows.{Codes, free_empty, free_full, filling, swapping, taking, At, push_put, force_put_empty, force_put_full}
use Rattle.machine_memory.specs.SharedMemory.{MemoryState}
use Rattle.machine_steps.specs.{Steps.CanStep, Steps.step_of, Steps.start_of, Left.left_of, Left.all_written, World.World, World.call_at}
use Rattle.machine_replay.proofs.Engine.Events as engine
use Rattle.machine_replay.proofs.{Engine.KindLaws.SimulatesOf, Engine.KindLaws.Rules, Engine.KindLaws.KindLaws, Engine.Counted.counted-none, Slot.Laws.SlotHolds, Slot.Laws.FitsIn, Slot.Laws.slot_engine}
use Rattle.machine_replay.proofs.Engine.AllWritten.{writes, writes_slot, all_written-none, all_written-one}

-- what the lock's holder is about to write
abbrev wait_of : {T : Type 0} → SlotHolder T → Option T
wait_of (Filling v) = Some v
wait_of (Swapping old v) = Some v
wait_of x = None

-- a party writes exactly where it holds a value to be written
at_writing : {T : Type 0} {c : Stand T} {own : SlotHolder T} → At c own
    → ((wait_of own ≡ None) × (writes_slot c.touch 0 ≡ false)) ⊎ ((x : T) × (wait_of own ≡ Some x) × (c.carried ≡ Some x) × (writes_slot c.touch 0 ≡ true))
at_writing (push_put v) = inr (v, refl, refl, refl)
at_writing (force_put_empty v) = inr (v, refl, refl, refl)
at_writing (force_put_full old v) = inr (v, refl, refl, refl)
at_writing x = inl (refl, refl)

-- what a party, in a call or not, is about to write
abbrev Writing : {T : Type 0} → LockHolder T → ℕ → Option (Running T) → Type 0
Writing {T} g p x =
    ((wait_of (own_of g.who g.hold p) ≡ None) × (writes x 0 ≡ false))
    ⊎ ((r : Running T) × (y : T) × (x ≡ Some r) × (wait_of (own_of g.who g.hold p) ≡ Some y) × (r.carried ≡ Some y) × (writes_slot r.touch 0 ≡ true))

party_writing : {T : Type 0} (busy : ℕ) (s : MemoryState T) (Q : State T) (g : LockHolder T) (p : ℕ) (x : Option (Running T)) (y : Option (Open T))
    → engine.Party T (MemoryState T) (Running T) (LockHolder T) (Some 1) (step_of Kind.Single) (start_of Kind.Single) (CanStep Kind.Single) SlotHolds Idle FitsIn busy s Q g p x y → Writing g p x
party_writing busy s Q g p None None h = inl (ap wait_of h, refl)
party_writing busy s Q g p (Some r) (Some o) h = elim (at_writing h.here) [ inl e ↦ inl e | inr e ↦ inr (r, e.0, refl, e.1, e.2, e.3) ]
party_writing busy s Q g p x y h = absurd h

-- nobody writes
slot_kept : {T : Type 0} (calls : List (Option (Running T))) (slots : List (Option T)) (g : LockHolder T) → ((p : ℕ) → Writing g p (get_or calls p None)) → wait_of g.hold ≡ None → get_or (all_written calls slots) 0 None ≡ get_or slots 0 None
slot_kept calls slots g all none = all_written-none calls slots 0 (λ p. idle_at p (all p))
  where
    nothing : (p : ℕ) → wait_of (own_of g.who g.hold p) ≡ None
    nothing p = elim (eqb_tells p g.who) [ inl t ↦ rw t.0 none | inr f ↦ rw f.0 refl ]

    idle_at : (p : ℕ) → Writing g p (get_or calls p None) → writes (get_or calls p None) 0 ≡ false
    idle_at p (inl e) = e.1
    idle_at p (inr e) = let n = nothing p in let m = e.3 in cc

-- the lock's holder writes
slot_filled : {T : Type 0} (calls : List (Option (Running T))) (slots : List (Option T)) (g : LockHolder T) (v : T) → 0 < length slots → ((p : ℕ) → Writing g p (get_or calls p None)) → wait_of g.hold ≡ Some v → get_or (all_written calls slots) 0 None ≡ Some v
slot_filled calls slots g v long all some = holder (all g.who)
  where
    mine : wait_of (own_of g.who g.hold g.who) ≡ Some v
    mine = rw (eq-eqb g.who g.who refl) some

    other : (p : ℕ) → p ≢ g.who → Writing g p (get_or calls p None) → writes (get_or calls p None) 0 ≡ false
    other p ne (inl e) = e.1
    other p ne (inr e) = elim (eqb_tells p g.who) [ inl t ↦ absurd (ne t.1) | inr f ↦ let none : wait_of (own_of g.who g.hold p) ≡ None = rw f.0 refl in let m = e.3 in cc ]

    holder : Writing g g.who (get_or calls g.who None) → get_or (all_written calls slots) 0 None ≡ Some v
    holder (inl e) = let m = mine in let n = e.0 in cc
    holder (inr e) =
        let same : Some e.1 ≡ Some v = sym e.3 ∙ mine in
        all_written-one calls slots 0 g.who e.0 long e.2 e.5 (λ p ne. other p ne (all p)) ∙ e.4 ∙ same

left_stands : {T : Type 0} {word : ℕ} {slot : Option T} {h : SlotHolder T} {items : List T} {c : Bool} (found : Option T)
    → Codes word slot h items c → (wait_of h ≡ None → found ≡ slot) → ((v : T) → wait_of h ≡ Some v → found ≡ Some v)
    → (if is_pushed word then option_to_list found else []) ≡ items
left_stands found (free_empty true) kept f = refl
left_stands found (free_full true x) kept f = rw (kept refl) refl
left_stands found (free_full false x) kept f = rw (kept refl) refl
left_stands found (filling true v) kept f = rw (f v refl) refl
left_stands found (filling false v) kept f = rw (f v refl) refl
left_stands found (swapping true old v) kept f = rw (f v refl) refl
left_stands found (swapping false old v) kept f = rw (f v refl) refl
left_stands found (taking true x) kept f = refl
left_stands found x kept f = refl

slot_left : {T : Type 0} (parties : ℕ) (w : World (MemoryState T) (Running T)) (b : Book T) → SimulatesOf T Kind.Single (LockHolder T) SlotHolds Idle FitsIn parties w b → left_of Kind.Single w ≡ b.queue.items
slot_left {T} parties w b sim =
    let holds = sim.holds in
    let writing : (p : ℕ) → Writing sim.g p (call_at w p) = λ p. party_writing b.busy w.shared b.queue sim.g p (call_at w p) (b.open_call p) (sim.each p) in
    rw (holds.queue_is, holds.shared_is) (
    left_stands (get_or (all_written w.calls (holds.slot ∷ [])) 0 None) holds.stands
    (λ none. slot_kept w.calls (holds.slot ∷ []) sim.g writing none)
    (λ v some. slot_filled w.calls (holds.slot ∷ []) sim.g v (omega arith) writing some))

-- a queue of one slot keeps the laws of the machine
abbrev pub slot_rules : (T : Type 0) → Rules T Kind.Single
slot_rules T = record {
  G = LockHolder T;
  Holds = SlotHolds;
  Idle = Idle;
  Fits = FitsIn;
  laws = slot_engine;
  first = record { who = 0; hold = Nobody };
  opens = record { word = 0; slot = None; items = []; c = false; n = 0; shared_is = refl; queue_is = refl; stands = free_empty false };
  all_idle = λ p. elim (p == 0) as (λ b. if◌then◌else◌ {A = SlotHolder T} b Nobody Nobody ≡ Nobody) [ true ↦ refl | false ↦ refl ];
}

-- and owes no more
pub slot_laws : (T : Type 0) → KindLaws T Kind.Single
slot_laws T = record {
  rules = slot_rules T;
  leaves = λ parties w b sim. slot_left parties w b sim;
  counts = λ parties w b sim. counted-none w b 1 (ap (λ s. s.blocks) sim.holds.shared_is) (ap (λ q. q.cap) sim.holds.queue_is);
}
