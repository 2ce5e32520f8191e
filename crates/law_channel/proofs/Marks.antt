-- What is kept of the marks of those that sleep or go to sleep, and of those that notify all.
use Rattle.std.proofs.Common.{◌≡◌, inl, inr, ℕ, ◌+◌, ◌-◌, ◌==◌, Bool, true, false, if◌then◌else◌, Option, Some, None, List, map, replicate, count_by, slice_get, slice_set, sym, subst}
use Rattle.event_count.specs.{declared.wakes.steps.Phase.Phase, declared.wakes.steps.Whom.TheVariants.One, declared.wakes.steps.Whom.TheVariants.All, Sleep.Steps.low, Sleep.Steps.step_of, Sleep.Steps.looked_of}
use Rattle.event_count.specs.declared.wakes.steps.Phase.TheVariants.{Idle, Starting, Loaded, Prepared, Missed, Returned, Given, Taking, Clearing, Moving, Waking}
use Rattle.event_count.specs.Sleep.World.{Party, Awake, Asleep, World, Event, Steps, Rises, Prepares, Looks, Leaves, Gives, Tells, is_asleep, risen, put, goes_on, counts_late, wakes_one, takes, rises, looks, leaves, prepares, gives, tells, happens}
use Rattle.event_count.proofs.Sleep.{Counts.set_get, Counts.map_get, Counts.replicate_get, Telling.acts_keeps}

-- P holds of the mark of a party that sleeps or goes to sleep, and E where a party notifies all
abbrev pub Waits : (ℕ → Type 0) → Type 0 → Party → Type 0
Waits P E (Awake (Missed t) m) = P m
Waits P E (Asleep t parked m) = P m
Waits P E (Awake Clearing m) = E
Waits P E (Awake (Moving All) m) = E
Waits P E (Awake (Waking All) m) = E
Waits P E other = Unit {0}

abbrev pub Marked : (ℕ → Type 0) → Type 0 → List Party → Type 0
Marked P E ps = (k : ℕ) (p : Party) → slice_get ps k ≡ Some p → Waits P E p

wider : (P : ℕ → Type 0) (E F : Type 0) → (E → F) → (p : Party) → Waits P E p → Waits P F p
wider P E F on (Awake Clearing m) f = on f
wider P E F on (Awake (Moving All) m) f = on f
wider P E F on (Awake (Waking All) m) f = on f
wider P E F on other f = f

pub marked_on : (P : ℕ → Type 0) (E F : Type 0) → (E → F) → (ps : List Party) → Marked P E ps → Marked P F ps
marked_on P E F on ps h = λ k p at. wider P E F on p (h k p at)

module _ (P : ℕ → Type 0) (E : Type 0) where
  pub start_marked : (n : ℕ) → Marked P E (replicate n (Awake Idle 0))
  start_marked n = λ k p at. subst (Waits P E) (sym (replicate_get n k (Awake Idle 0) p at)) tt

  pub set_marked : (ps : List Party) (k : ℕ) (q : Party) → Waits P E q → Marked P E ps → Marked P E (slice_set ps k q)
  set_marked ps k q fits h = λ i r is. elim (set_get ps k i q r is) [ inl same ↦ subst (Waits P E) (sym same) fits | inr old ↦ h i r old ]

  risen_waits : (p : Party) → Waits P E p → Waits P E (risen p)
  risen_waits (Awake p m) f = f
  risen_waits (Asleep t parked m) f = tt

  map_marked : (ps : List Party) → Marked P E ps → Marked P E (map risen ps)
  map_marked ps h = λ i r is. let y = map_get risen ps i r is in subst (Waits P E) (sym y.2) (risen_waits y.0 (h i y.0 y.1))

  module _ (w : World) (k m : ℕ) (h : Marked P E w.parties) where
    parks : (t : ℕ) (b : Bool) → P m → Marked P E (if b then put (counts_late w t) k (Asleep t w.events m) else goes_on w k (Missed t) m 0).parties
    parks t true f = set_marked w.parties k (Asleep t w.events m) f h
    parks t false f = set_marked w.parties k (Awake Returned m) tt h

    finds : (b : Bool) → Marked P E (put w k (Awake (if b then Idle else Taking w.sleepers) m)).parties
    finds true = set_marked w.parties k (Awake Idle m) tt h
    finds false = set_marked w.parties k (Awake (Taking w.sleepers) m) tt h

    nobody : (b : Bool) → Marked P E (if b then goes_on w k (Waking One) m 0 else w).parties
    nobody true = set_marked w.parties k (Awake Idle m) tt h
    nobody false = h

    wakes : (j : ℕ) (o : Option Party) → Marked P E (wakes_one w k (Waking One) m j o).parties
    wakes j (Some (Asleep t parked mark)) = set_marked (slice_set w.parties j (Awake Returned mark)) k (Awake Idle m) tt (set_marked w.parties j (Awake Returned mark) tt h)
    wakes j (Some (Awake p mark)) = nobody (count_by is_asleep w.parties == 0)
    wakes j None = nobody (count_by is_asleep w.parties == 0)

    takes_marked : (j : ℕ) (p : Phase) → Waits P E (Awake p m) → Marked P E (takes w k p m j (step_of p)).parties
    takes_marked j Idle f = h
    takes_marked j Starting f = set_marked w.parties k (Awake (Loaded w.events) m) tt h
    takes_marked j (Loaded t) f = set_marked w.parties k (Awake (Prepared t) m) tt h
    takes_marked j (Prepared t) f = h
    takes_marked j (Missed t) f = parks t (low w.events == low t) f
    takes_marked j Returned f = h
    takes_marked j Given f = finds (w.sleepers == 0)
    takes_marked j (Taking n) f = set_marked w.parties k (Awake (Moving One) m) tt h
    takes_marked j Clearing f = set_marked w.parties k (Awake (Moving All) m) f h
    takes_marked j (Moving One) f = set_marked w.parties k (Awake (Waking One) m) tt h
    takes_marked j (Moving All) f = set_marked w.parties k (Awake (Waking All) m) f h
    takes_marked j (Waking One) f = wakes j (slice_get w.parties j)
    takes_marked j (Waking All) f = set_marked (map risen w.parties) k (Awake Idle m) tt (map_marked w.parties h)

    prepares_marked : (p : Phase) → Marked P E (prepares w k m p).parties
    prepares_marked Idle = set_marked w.parties k (Awake Starting m) tt h
    prepares_marked other = h

    leaves_marked : (p : Phase) → Marked P E (leaves w k m p).parties
    leaves_marked (Prepared t) = set_marked w.parties k (Awake Idle m) tt h
    leaves_marked other = h

    gives_marked : (p : Phase) → Marked P E (gives w k m p).parties
    gives_marked Idle = set_marked w.parties k (Awake Given m) tt h
    gives_marked other = h

    tells_marked : (p : Phase) → E → Marked P E (tells w k m p).parties
    tells_marked Idle e = set_marked w.parties k (Awake Clearing (w.times + 1)) e h
    tells_marked other e = h

    pub looks_on : (b : Bool) (p q : Phase) → Waits P E (Awake p w.times) → Waits P E (Awake q w.times)
        → Marked P E (if b then put w k (Awake p w.times) else put (record w { items = w.items - 1 }) k (Awake q w.times)).parties
    looks_on true p q f g = set_marked w.parties k (Awake p w.times) f h
    looks_on false p q f g = set_marked w.parties k (Awake q w.times) g h

    -- a look of who has no ticket
    looks_plain : (p : Phase) → (Waits P E (Awake (looked_of p false) w.times)) → Marked P E (looks w k p (step_of p)).parties
    looks_plain Idle f = looks_on (w.items == 0) Idle Idle tt tt
    looks_plain (Prepared t) f = looks_on (w.items == 0) (Missed t) Idle f tt
    looks_plain Returned f = looks_on (w.items == 0) Idle Idle tt tt
    looks_plain other f = h

  rises_marked : (w : World) (k : ℕ) (o : Option Party) → Marked P E w.parties → Marked P E (rises w k o).parties
  rises_marked w k (Some (Asleep t parked m)) h = set_marked w.parties k (Awake Returned m) tt h
  rises_marked w k (Some (Awake p m)) h = h
  rises_marked w k None h = h

  -- a look that finds nothing may be that of who then goes to sleep
  abbrev pub Allows : World → Event → Type 0
  Allows w (Looks k) = P w.times
  Allows w (Tells k) = E
  Allows w other = Unit {0}

  allowed : (times : ℕ) (p : Phase) → P times → (m : ℕ) → Waits P E (Awake p m) → Waits P E (Awake (looked_of p false) times)
  allowed times (Prepared t) may m f = may
  allowed times (Missed t) may m f = may
  allowed times Clearing may m f = f
  allowed times (Moving All) may m f = f
  allowed times (Waking All) may m f = f
  allowed times other may m f = tt

  pub happens_marked : (w : World) (e : Event) → Allows w e → Marked P E w.parties → Marked P E (happens w e).parties
  happens_marked w (Steps k j) may h = acts_keeps (λ v. Marked P E v.parties) w (λ p m. takes w k p m j (step_of p)) (slice_get w.parties k) (λ p m at. takes_marked w k m h j p (h k (Awake p m) at)) h
  happens_marked w (Rises k) may h = rises_marked w k (slice_get w.parties k) h
  happens_marked w (Prepares k) may h = acts_keeps (λ v. Marked P E v.parties) w (λ p m. prepares w k m p) (slice_get w.parties k) (λ p m at. prepares_marked w k m h p) h
  happens_marked w (Looks k) may h = acts_keeps (λ v. Marked P E v.parties) w (λ p m. looks w k p (step_of p)) (slice_get w.parties k) (λ p m at. looks_plain w k m h p (allowed w.times p may m (h k (Awake p m) at))) h
  happens_marked w (Leaves k) may h = acts_keeps (λ v. Marked P E v.parties) w (λ p m. leaves w k m p) (slice_get w.parties k) (λ p m at. leaves_marked w k m h p) h
  happens_marked w (Gives k) may h = acts_keeps (λ v. Marked P E v.parties) w (λ p m. gives w k m p) (slice_get w.parties k) (λ p m at. gives_marked w k m h p) h
  happens_marked w (Tells k) may h = acts_keeps (λ v. Marked P E v.parties) w (λ p m. tells w k m p) (slice_get w.parties k) (λ p m at. tells_marked w k m h p may) h
