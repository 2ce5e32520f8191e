-- Each event keeps that no item is left to nobody, while no party slept on a ticket that `EVENTS` was no longer.
use Rattle.std.proofs.Common.{◌≡◌, ℕ, zero, suc, ◌+◌, ◌-◌, ◌≤◌, ◌==◌, Bool, true, false, if◌then◌else◌, Option, Some, None, slice_get, refl, arith, le_refl, eqb-true}
use Rattle.event_count.specs.declared.wakes.steps.Phase.{Phase, TheVariants.Idle, TheVariants.Starting, TheVariants.Prepared, TheVariants.Missed, TheVariants.Returned, TheVariants.Given, TheVariants.Clearing}
use Rattle.event_count.specs.Sleep.Steps.{step_of}
use Rattle.event_count.specs.Sleep.World.{Party, Awake, Asleep, World, Event, Steps, Rises, Prepares, Looks, Leaves, Gives, Tells, put, takes, rises, looks, leaves, prepares, gives, tells, happens}
use Rattle.event_count.proofs.Sleep.{Relying.AllRely, Telling.acts_keeps, HeedSteps.Heeded, HeedSteps.turns, HeedSteps.turns_empty, HeedSteps.takes_keeps, Heed.part, Heed.alike}

positive : (n : ℕ) → (n == 0) ≡ false → 1 ≤ n
positive zero is = absurd (cc)
positive (suc n) is = omega arith

module _ (w : World) (k m : ℕ) (h : Heeded w) where
  looks_idle : (b : Bool) → slice_get w.parties k ≡ Some (Awake Idle m) → Heeded (if b then put w k (Awake Idle w.times) else put (record w { items = w.items - 1 }) k (Awake Idle w.times))
  looks_idle true at = turns w k m h (Awake Idle m) (Awake Idle w.times) w.sleepers w.items at (alike w.sleepers w.items (part w.events (Awake Idle m)))
  looks_idle false at = turns w k m h (Awake Idle m) (Awake Idle w.times) w.sleepers (w.items - 1) at (record {
    reached = le_refl _;
    reached_near = le_refl _;
    all = le_refl _;
    parking = le_refl _;
    unmoved = omega arith;
    heeded = omega arith;
    no_parking = le_refl _;
    no_asleep = le_refl _;
    moving_all = le_refl _;
    rousing = le_refl _;
  })

  -- who has its ticket and finds nothing goes to sleep, and no item is left to anybody
  looks_prepared : (t : ℕ) (b : Bool) → (w.items == 0) ≡ b → slice_get w.parties k ≡ Some (Awake (Prepared t) m)
      → Heeded (if b then put w k (Awake (Missed t) w.times) else put (record w { items = w.items - 1 }) k (Awake Idle w.times))
  looks_prepared t true is at = turns_empty w k m h (Awake (Prepared t) m) (Awake (Missed t) w.times) at (eqb-true w.items 0 is) (omega arith) (omega arith) (le_refl _) (le_refl _)
  looks_prepared t false is at = turns w k m h (Awake (Prepared t) m) (Awake Idle w.times) w.sleepers (w.items - 1) at (record {
    reached = omega arith;
    reached_near = omega arith;
    all = omega arith;
    parking = omega arith;
    unmoved = omega arith;
    heeded = omega arith;
    no_parking = omega arith;
    no_asleep = le_refl _;
    moving_all = le_refl _;
    rousing = le_refl _;
  })

  -- who was woken and finds nothing leaves nothing: another has taken what it was woken for
  looks_returned : (b : Bool) → (w.items == 0) ≡ b → slice_get w.parties k ≡ Some (Awake Returned m)
      → Heeded (if b then put w k (Awake Idle w.times) else put (record w { items = w.items - 1 }) k (Awake Idle w.times))
  looks_returned true is at = turns_empty w k m h (Awake Returned m) (Awake Idle w.times) at (eqb-true w.items 0 is) (omega arith) (omega arith) (le_refl _) (le_refl _)
  looks_returned false is at =
      let some = positive w.items is in
      turns w k m h (Awake Returned m) (Awake Idle w.times) w.sleepers (w.items - 1) at (record {
        reached = le_refl _;
        reached_near = le_refl _;
        all = le_refl _;
        parking = le_refl _;
        unmoved = omega arith;
        heeded = omega (arith, some);
        no_parking = le_refl _;
        no_asleep = le_refl _;
        moving_all = le_refl _;
        rousing = le_refl _;
      })

  looks_keeps : (p : Phase) → slice_get w.parties k ≡ Some (Awake p m) → Heeded (looks w k p (step_of p))
  looks_keeps Idle at = looks_idle (w.items == 0) at
  looks_keeps (Prepared t) at = looks_prepared t (w.items == 0) refl at
  looks_keeps Returned at = looks_returned (w.items == 0) refl at
  looks_keeps other at = h

  leaves_keeps : (p : Phase) → slice_get w.parties k ≡ Some (Awake p m) → Heeded (leaves w k m p)
  leaves_keeps (Prepared t) at = turns w k m h (Awake (Prepared t) m) (Awake Idle m) w.sleepers w.items at (record {
    reached = omega arith;
    reached_near = omega arith;
    all = omega arith;
    parking = omega arith;
    unmoved = le_refl _;
    heeded = le_refl _;
    no_parking = omega arith;
    no_asleep = le_refl _;
    moving_all = le_refl _;
    rousing = le_refl _;
  })
  leaves_keeps other at = h

  prepares_keeps : (p : Phase) → slice_get w.parties k ≡ Some (Awake p m) → Heeded (prepares w k m p)
  prepares_keeps Idle at = turns w k m h (Awake Idle m) (Awake Starting m) w.sleepers w.items at (alike w.sleepers w.items (part w.events (Awake Idle m)))
  prepares_keeps other at = h

  gives_keeps : (p : Phase) → slice_get w.parties k ≡ Some (Awake p m) → Heeded (gives w k m p)
  gives_keeps Idle at = turns w k m h (Awake Idle m) (Awake Given m) w.sleepers (w.items + 1) at (record {
    reached = omega arith;
    reached_near = omega arith;
    all = omega arith;
    parking = omega arith;
    unmoved = omega arith;
    heeded = omega arith;
    no_parking = le_refl _;
    no_asleep = le_refl _;
    moving_all = le_refl _;
    rousing = le_refl _;
  })
  gives_keeps other at = h

  tells_keeps : (p : Phase) → slice_get w.parties k ≡ Some (Awake p m) → Heeded (tells w k m p)
  tells_keeps Idle at = turns w k m h (Awake Idle m) (Awake Clearing (w.times + 1)) w.sleepers w.items at (alike w.sleepers w.items (part w.events (Awake Idle m)))
  tells_keeps other at = h

  rises_keeps : (o : Option Party) → slice_get w.parties k ≡ o → Heeded (rises w k o)
  rises_keeps (Some (Asleep t parked mark)) at = turns w k m h (Asleep t parked mark) (Awake Returned mark) w.sleepers w.items at (record {
    reached = omega arith;
    reached_near = omega arith;
    all = omega arith;
    parking = omega arith;
    unmoved = le_refl _;
    heeded = omega arith;
    no_parking = le_refl _;
    no_asleep = omega arith;
    moving_all = le_refl _;
    rousing = le_refl _;
  })
  rises_keeps (Some (Awake p mark)) at = h
  rises_keeps None at = h

pub happens_keeps : (w : World) (e : Event) → AllRely w → Heeded w → Heeded (happens w e)
happens_keeps w (Steps k j) rely h = acts_keeps Heeded w (λ p m. takes w k p m j (step_of p)) (slice_get w.parties k) (λ p m at. takes_keeps w k m h j rely p at) h
happens_keeps w (Rises k) rely h = rises_keeps w k 0 h (slice_get w.parties k) refl
happens_keeps w (Prepares k) rely h = acts_keeps Heeded w (λ p m. prepares w k m p) (slice_get w.parties k) (λ p m at. prepares_keeps w k m h p at) h
happens_keeps w (Looks k) rely h = acts_keeps Heeded w (λ p m. looks w k p (step_of p)) (slice_get w.parties k) (λ p m at. looks_keeps w k m h p at) h
happens_keeps w (Leaves k) rely h = acts_keeps Heeded w (λ p m. leaves w k m p) (slice_get w.parties k) (λ p m at. leaves_keeps w k m h p at) h
happens_keeps w (Gives k) rely h = acts_keeps Heeded w (λ p m. gives w k m p) (slice_get w.parties k) (λ p m at. gives_keeps w k m h p at) h
happens_keeps w (Tells k) rely h = acts_keeps Heeded w (λ p m. tells w k m p) (slice_get w.parties k) (λ p m at. tells_keeps w k m h p at) h
