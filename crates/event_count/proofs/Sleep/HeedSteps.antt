-- Each step keeps that no item is left to nobody, while no party slept on a ticket that `EVENTS` was no longer.
use Rattle.std.proofs.Common.{◌≡◌, ◌≢◌, inl, inr, ℕ, ◌+◌, ◌-◌, ◌≤◌, ◌==◌, Bool, true, false, cond, if◌then◌else◌, Option, Some, None, map, count_by, slice_get, slice_set, refl, sym, ap, ◌∙◌, subst, arith, le_refl, le_trans, eqb-true}
use Rattle.event_count.specs.{declared.wakes.steps.Phase.Phase, declared.wakes.steps.Whom.TheVariants.One, declared.wakes.steps.Whom.TheVariants.All, Sleep.Steps.low, Sleep.Steps.step_of, Sleep.Laws.is_woken, Sleep.Laws.is_rousing}
use Rattle.event_count.specs.declared.wakes.steps.Phase.TheVariants.{Idle, Starting, Loaded, Prepared, Missed, Returned, Given, Taking, Clearing, Moving, Waking}
use Rattle.event_count.specs.Sleep.World.{Party, Awake, Asleep, World, is_asleep, risen, put, goes_on, counts_late, wakes_one, takes}
use Rattle.event_count.proofs.Sleep.{Counts.one, Counts.count_le, Counts.count_map, Counts.count_none, Counts.set_get, Counts.set_other, Counts.map_at, Relying.Relies, Relying.AllRely, Relying.turned, Telling.same_risen, Telling.none_risen}
use Rattle.event_count.proofs.Sleep.Heed.{is_near, is_parking, is_unmoved, is_moving, is_waking, is_moving_all, moving_rouses, tally_of, part, unless, no_fewer, Covers, Heeds, swaps, Owes, owes_keeps, alike, empty_keeps, both, two_swaps}

abbrev pub Heeded : World → Type 0
Heeded w = w.late ≡ 0 → Heeds w.sleepers w.items (tally_of w.events w.parties)

at_most_one : (b : Bool) → cond b 1 0 ≤ 1
at_most_one true = omega arith
at_most_one false = omega arith

parking_near : (e : ℕ) (p : Party) → one (is_parking e) p ≤ one (is_near e) p
parking_near e (Awake (Missed t) m) = le_refl _
parking_near e other = omega arith

-- once `EVENTS` has moved, no ticket is what it is
not_near : (e t : ℕ) (b : Bool) → t ≤ e → (e + 1 == t) ≡ b → ◌≡◌ {A = ℕ} (cond b 1 0) 0
not_near e t true le is = let same = eqb-true (e + 1) t is in absurd (omega (arith, le, same))
not_near e t false le is = refl

none_near : (w : World) (p : Party) → Relies w p → one (is_near (w.events + 1)) p ≡ 0
none_near w (Awake (Prepared t) m) f = not_near w.events t (w.events + 1 == t) f refl
none_near w (Awake (Missed t) m) f = not_near w.events t (w.events + 1 == t) f.0 refl
none_near w other f = refl

module _ (w : World) (k m : ℕ) (h : Heeded w) where
  -- the party goes from p to q, and `EVENTS` stays
  pub turns : (p q : Party) (sleepers items : ℕ) → slice_get w.parties k ≡ Some p → Owes w.sleepers w.items sleepers items (part w.events p) (part w.events q) → Heeded (turned w k q w.events sleepers items w.late)
  turns p q sleepers items at owes = λ none.
      owes_keeps w.sleepers w.items sleepers items (tally_of w.events w.parties) (tally_of w.events (slice_set w.parties k q)) (part w.events p) (part w.events q) (swaps w.events w.parties k p q at) owes (h none)

  -- no items are left
  pub turns_empty : (p q : Party) → slice_get w.parties k ≡ Some p → w.items ≡ 0 → one is_moving p + one is_waking p + one is_asleep q + one (is_near w.events) q ≤ one is_moving q + one is_waking q + one is_asleep p + one (is_near w.events) p
      → one is_moving p + one (is_near w.events) q ≤ one is_moving q + one (is_near w.events) p → one is_moving_all p ≤ one is_moving_all q → one is_rousing p ≤ one is_rousing q
      → Heeded (turned w k q w.events w.sleepers w.items w.late)
  turns_empty p q at none a b c d = λ early.
      empty_keeps w.sleepers w.items (tally_of w.events w.parties) (tally_of w.events (slice_set w.parties k q)) (part w.events p) (part w.events q) none (swaps w.events w.parties k p q at) a b c d (h early)

  registers : (t : ℕ) → slice_get w.parties k ≡ Some (Awake (Loaded t) m) → Heeded (turned w k (Awake (Prepared t) m) w.events (w.sleepers + 1) w.items w.late)
  registers t at = let one = at_most_one (w.events == t) in
      turns (Awake (Loaded t) m) (Awake (Prepared t) m) (w.sleepers + 1) w.items at (record {
        reached = omega (arith, one);
        reached_near = omega (arith, one);
        all = omega arith;
        parking = omega arith;
        unmoved = le_refl _;
        heeded = le_refl _;
        no_parking = le_refl _;
        no_asleep = le_refl _;
        moving_all = le_refl _;
        rousing = le_refl _;
      })

  -- who parks goes from those that go to sleep to those that sleep
  sleeps : (t : ℕ) (b : Bool) → (w.events == t) ≡ b → slice_get w.parties k ≡ Some (Awake (Missed t) m) → w.late + (if b then 0 else 1) ≡ 0
      → Heeds w.sleepers w.items (tally_of w.events (slice_set w.parties k (Asleep t w.events m)))
  sleeps t true is at none =
      let e = w.events in
      let p = Awake (Missed t) m in
      let q = Asleep t e m in
      let old = tally_of e w.parties in
      let new = tally_of e (slice_set w.parties k q) in
      let early : w.late ≡ 0 = omega (arith, none) in
      let it = h early in
      let near_one : one (is_near e) p ≡ 1 = ap {B = ℕ} (λ (b : Bool). cond b 1 0) is in
      let s = swaps e w.parties k p q at in
      let asleep = s.asleep in let near = s.near in let parking = s.parking in let woken = s.woken in let unmoved = s.unmoved in let moving = s.moving in let waking = s.waking in
      let more = no_fewer old.moving_all new.moving_all 0 0 s.moving_all (le_refl _) in
      let rouse = no_fewer old.rousing new.rousing 0 0 s.rousing (le_refl _) in
      let covers : Covers old → Covers new = λ c. record {
        all = unless old.rousing new.rousing rouse (λ all. (omega (arith, asleep, parking, moving, waking, near_one, all))) c.all;
        parking = unless old.moving_all new.moving_all more (λ few. (omega (arith, parking, moving, near_one, few))) c.parking;
      } in
      record {
        reached = unless old.rousing new.rousing rouse (λ a. (omega (arith, asleep, near, moving, waking, near_one, a))) it.reached;
        reached_near = unless old.moving_all new.moving_all more (λ a. (omega (arith, near, moving, near_one, a))) it.reached_near;
        for_parking = λ some.
            let was : 1 ≤ old.parking = omega (arith, parking, near_one) in
            elim (it.for_parking was) [ inl few ↦ inl (omega (arith, unmoved, few)) | inr c ↦ inr (covers c) ];
        for_asleep = λ some.
            let was : 1 ≤ old.parking = omega (arith, parking, near_one) in
            elim (it.for_parking was) [ inl few ↦ inl (omega (arith, unmoved, few)) | inr c ↦ inr (covers c) ];
      }
  sleeps t false is at none = absurd (omega (arith, none))

  parks : (t : ℕ) (b : Bool) → slice_get w.parties k ≡ Some (Awake (Missed t) m) → Heeded (if b then put (counts_late w t) k (Asleep t w.events m) else goes_on w k (Missed t) m 0)
  parks t true at = sleeps t (w.events == t) refl at
  parks t false at = turns (Awake (Missed t) m) (Awake Returned m) w.sleepers w.items at (record {
    reached = omega arith;
    reached_near = omega arith;
    all = omega arith;
    parking = omega arith;
    unmoved = le_refl _;
    heeded = omega arith;
    no_parking = omega arith;
    no_asleep = le_refl _;
    moving_all = le_refl _;
    rousing = le_refl _;
  })

  -- a load of `SLEEPERS` that finds nobody ends the notify: another is on the way to each that sleeps or goes to sleep
  ends_early : w.sleepers ≡ 0 → slice_get w.parties k ≡ Some (Awake Given m) → Heeded (put w k (Awake Idle m))
  ends_early nobody at = λ early.
      let e = w.events in
      let p = Awake Given m in
      let q = Awake Idle m in
      let old = tally_of e w.parties in
      let new = tally_of e (slice_set w.parties k q) in
      let it = h early in
      let few = count_le (is_parking e) (is_near e) (parking_near e) w.parties in
      let s = swaps e w.parties k p q at in
      let asleep = s.asleep in let near = s.near in let parking = s.parking in let moving = s.moving in let waking = s.waking in
      let more = no_fewer old.moving_all new.moving_all 0 0 s.moving_all (le_refl _) in
      let rouse = no_fewer old.rousing new.rousing 0 0 s.rousing (le_refl _) in
      let covers : Covers new = record {
        all = unless old.rousing new.rousing rouse (λ reached. (omega (arith, nobody, few, reached, asleep, parking, moving, waking))) it.reached;
        parking = unless old.moving_all new.moving_all more (λ reached. (omega (arith, nobody, few, reached, parking, moving))) it.reached_near;
      } in
      record {
        reached = unless old.rousing new.rousing rouse (λ reached. (omega (arith, asleep, near, moving, waking, reached))) it.reached;
        reached_near = unless old.moving_all new.moving_all more (λ reached. (omega (arith, near, moving, reached))) it.reached_near;
        for_parking = λ some. inr covers;
        for_asleep = λ some. inr covers;
      }

  finds : (b : Bool) → (w.sleepers == 0) ≡ b → slice_get w.parties k ≡ Some (Awake Given m) → Heeded (put w k (Awake (if b then Idle else Taking w.sleepers) m))
  finds true is at = ends_early (eqb-true w.sleepers 0 is) at
  finds false is at = turns (Awake Given m) (Awake (Taking w.sleepers) m) w.sleepers w.items at (alike w.sleepers w.items (part w.events (Awake Given m)))

  -- a notify that takes one off `SLEEPERS` is on the way to it
  taken : (n sleepers : ℕ) → w.sleepers ≤ sleepers + 1 → slice_get w.parties k ≡ Some (Awake (Taking n) m) → Heeded (turned w k (Awake (Moving One) m) w.events sleepers w.items w.late)
  taken n sleepers few at = turns (Awake (Taking n) m) (Awake (Moving One) m) sleepers w.items at (record {
    reached = omega (arith, few);
    reached_near = omega (arith, few);
    all = omega arith;
    parking = omega arith;
    unmoved = le_refl _;
    heeded = le_refl _;
    no_parking = le_refl _;
    no_asleep = le_refl _;
    moving_all = le_refl _;
    rousing = le_refl _;
  })

  takes_one : (n : ℕ) (b : Bool) → (w.sleepers == n) ≡ b → slice_get w.parties k ≡ Some (Awake (Taking n) m) → Heeded (turned w k (Awake (Moving One) m) w.events (if b then n - 1 else w.sleepers) w.items w.late)
  takes_one n true is at = let same = eqb-true w.sleepers n is in taken n (n - 1) (omega (arith, same)) at
  takes_one n false is at = taken n w.sleepers (omega arith) at

  -- who has taken all off `SLEEPERS` goes to wake all
  clears : slice_get w.parties k ≡ Some (Awake Clearing m) → Heeded (turned w k (Awake (Moving All) m) w.events 0 w.items w.late)
  clears at = λ early.
      let e = w.events in
      let p = Awake Clearing m in
      let q = Awake (Moving All) m in
      let old = tally_of e w.parties in
      let new = tally_of e (slice_set w.parties k q) in
      let s = swaps e w.parties k p q at in
      let moving_all = s.moving_all in let rousing = s.rousing in
      let more : 1 ≤ new.moving_all = omega (arith, moving_all) in
      let rouse : 1 ≤ new.rousing = omega (arith, rousing) in
      record {
        reached = inl rouse;
        reached_near = inl more;
        for_parking = λ some. inr (record { all = inl rouse; parking = inl more });
        for_asleep = λ some. inr (record { all = inl rouse; parking = inl more });
      }

  -- once `EVENTS` has moved, nobody goes to sleep
  moves : AllRely w → (p q : Party) → slice_get w.parties k ≡ Some p → one (is_near (w.events + 1)) q ≡ 0 → one is_asleep q ≤ one is_asleep p
      → one is_moving p + one is_waking p ≤ one is_moving q + one is_waking q → one is_woken p + one is_unmoved p + one is_waking p ≤ one is_woken q + one is_unmoved q + one is_waking q
      → one is_rousing p ≤ one is_rousing q → Heeded (turned w k q (w.events + 1) w.sleepers w.items w.late)
  moves rely p q at none few on more rouses = λ early.
      let e = w.events in
      let old = tally_of e w.parties in
      let ps = slice_set w.parties k q in
      let it = h early in
      let no_near : count_by (is_near (e + 1)) ps ≡ 0 = count_none (is_near (e + 1)) ps (λ i r is.
      elim (set_get w.parties k i q r is) [ inl same ↦ subst (λ x. one (is_near (e + 1)) x ≡ 0) (sym same) none | inr was ↦ none_near w r (rely i r was) ]) in
      let less = count_le (is_parking (e + 1)) (is_near (e + 1)) (parking_near (e + 1)) ps in
      let s = swaps e w.parties k p q at in
      let asleep = s.asleep in let woken = s.woken in let unmoved = s.unmoved in let moving = s.moving in let waking = s.waking in
      let new = tally_of (e + 1) ps in
      let rouse = no_fewer old.rousing new.rousing (one is_rousing p) (one is_rousing q) s.rousing rouses in
      record {
        reached = unless old.rousing new.rousing rouse (λ a. (omega (arith, no_near, asleep, moving, waking, few, on, a))) it.reached;
        reached_near = inr (omega (arith, no_near));
        for_parking = λ some. absurd (omega (arith, some, less, no_near));
        for_asleep = λ some.
            let was : 1 ≤ old.asleep = omega (arith, asleep, few, some) in
            elim (it.for_asleep was) [
              | inl left ↦ inl (omega (arith, woken, unmoved, waking, more, left))
              | inr c ↦ inr (record {
                all = unless old.rousing new.rousing rouse (λ all. (omega (arith, less, no_near, asleep, moving, waking, few, on, all))) c.all;
                parking = inr (omega (arith, less, no_near));
              })
            ];
      }

  -- nobody sleeps, so a wake of one ends the notify and wakes nobody
  wakes_nobody : count_by is_asleep w.parties ≡ 0 → slice_get w.parties k ≡ Some (Awake (Waking One) m) → Heeded (goes_on w k (Waking One) m 0)
  wakes_nobody none at = λ early.
      let e = w.events in
      let p = Awake (Waking One) m in
      let q = Awake Idle m in
      let old = tally_of e w.parties in
      let it = h early in
      let s = swaps e w.parties k p q at in
      let asleep = s.asleep in let near = s.near in let parking = s.parking in let unmoved = s.unmoved in let moving = s.moving in let waking = s.waking in
      let new = tally_of e (slice_set w.parties k q) in
      let more = no_fewer old.moving_all new.moving_all 0 0 s.moving_all (le_refl _) in
      let rouse = le_trans more (count_le is_moving_all is_rousing moving_rouses (slice_set w.parties k q)) in
      record {
        reached = unless old.moving_all new.rousing rouse (λ reached. (omega (arith, none, asleep, near, moving, waking, reached))) it.reached_near;
        reached_near = unless old.moving_all new.moving_all more (λ reached. (omega (arith, near, moving, reached))) it.reached_near;
        for_parking = λ some.
            let was : 1 ≤ old.parking = omega (arith, parking, some) in
            elim (it.for_parking was) [
              | inl left ↦ inl (omega (arith, unmoved, left))
              | inr c ↦ inr (record {
                all = unless old.moving_all new.rousing rouse (λ few. (omega (arith, none, asleep, parking, moving, waking, few))) c.parking;
                parking = unless old.moving_all new.moving_all more (λ few. (omega (arith, parking, moving, few))) c.parking;
              })
            ];
        for_asleep = λ some. absurd (omega (arith, none, asleep, some));
      }

  nobody : (b : Bool) → (count_by is_asleep w.parties == 0) ≡ b → slice_get w.parties k ≡ Some (Awake (Waking One) m) → Heeded (if b then goes_on w k (Waking One) m 0 else w)
  nobody true is at = wakes_nobody (eqb-true (count_by is_asleep w.parties) 0 is) at
  nobody false is at = h

  -- one notify less, and one sleeper less
  wakes_sleeper : (j t parked mark : ℕ) → slice_get w.parties j ≡ Some (Asleep t parked mark) → slice_get w.parties k ≡ Some (Awake (Waking One) m)
      → Heeded (goes_on (put w j (Awake Returned mark)) k (Waking One) m 0)
  wakes_sleeper j t parked mark there here = λ early.
      let e = w.events in
      let s = Asleep t parked mark in
      let u = Awake Returned mark in
      let p = Awake (Waking One) m in
      let q = Awake Idle m in
      let ps = slice_set w.parties j u in
      let apart : k ≢ j = λ e. (cc) in
      let still : slice_get ps k ≡ Some p = set_other w.parties j k u apart ∙ here in
      let two = two_swaps (tally_of e w.parties) (tally_of e ps) (tally_of e (slice_set ps k q)) (part e s) (part e u) (part e p) (part e q) (swaps e w.parties j s u there) (swaps e ps k p q still) in
      owes_keeps w.sleepers w.items w.sleepers w.items (tally_of e w.parties) (tally_of e (slice_set ps k q)) (both (part e s) (part e p)) (both (part e u) (part e q)) two (record {
        reached = omega arith;
        reached_near = omega arith;
        all = omega arith;
        parking = omega arith;
        unmoved = omega arith;
        heeded = omega arith;
        no_parking = omega arith;
        no_asleep = omega arith;
        moving_all = le_refl _;
        rousing = le_refl _;
      }) (h early)

  wakes : (j : ℕ) (o : Option Party) → slice_get w.parties j ≡ o → slice_get w.parties k ≡ Some (Awake (Waking One) m) → Heeded (wakes_one w k (Waking One) m j o)
  wakes j (Some (Asleep t parked mark)) there here = wakes_sleeper j t parked mark there here
  wakes j (Some (Awake p mark)) there here = nobody (count_by is_asleep w.parties == 0) refl here
  wakes j None there here = nobody (count_by is_asleep w.parties == 0) refl here

  -- after a wake of all nobody sleeps
  wakes_all : slice_get w.parties k ≡ Some (Awake (Waking All) m) → Heeded (goes_on (record w { parties = map risen w.parties }) k (Waking All) m 0)
  wakes_all at = λ early.
      let e = w.events in
      let p = Awake (Waking All) m in
      let q = Awake Idle m in
      let up = map risen w.parties in
      let old = tally_of e w.parties in
      let it = h early in
      let s = swaps e up k p q (map_at risen w.parties k p at) in
      let asleep = s.asleep in let near = s.near in let parking = s.parking in let unmoved = s.unmoved in let moving = s.moving in let waking = s.waking in
      let none = none_risen w in
      let same_near = count_map (is_near e) risen (same_risen (is_near e) (λ t parked m. refl)) w.parties in
      let same_parking = count_map (is_parking e) risen (same_risen (is_parking e) (λ t parked m. refl)) w.parties in
      let same_unmoved = count_map is_unmoved risen (same_risen is_unmoved (λ t parked m. refl)) w.parties in
      let same_moving = count_map is_moving risen (same_risen is_moving (λ t parked m. refl)) w.parties in
      let same_all = count_map is_moving_all risen (same_risen is_moving_all (λ t parked m. refl)) w.parties in
      let new = tally_of e (slice_set up k q) in
      let moving_all = s.moving_all in
      let more : old.moving_all ≤ new.moving_all = omega (arith, same_all, moving_all) in
      let rouse = le_trans more (count_le is_moving_all is_rousing moving_rouses (slice_set up k q)) in
      record {
        reached = unless old.moving_all new.rousing rouse (λ reached. (omega (arith, none, asleep, near, moving, waking, same_near, same_moving, reached))) it.reached_near;
        reached_near = unless old.moving_all new.moving_all more (λ reached. (omega (arith, near, moving, same_near, same_moving, reached))) it.reached_near;
        for_parking = λ some.
            let was : 1 ≤ old.parking = omega (arith, parking, same_parking, some) in
            elim (it.for_parking was) [
              | inl left ↦ inl (omega (arith, unmoved, same_unmoved, left))
              | inr c ↦ inr (record {
                all = unless old.moving_all new.rousing rouse (λ few. (omega (arith, none, asleep, parking, moving, same_parking, same_moving, few))) c.parking;
                parking = unless old.moving_all new.moving_all more (λ few. (omega (arith, parking, moving, same_parking, same_moving, few))) c.parking;
              })
            ];
        for_asleep = λ some. absurd (omega (arith, none, asleep, some));
      }

  pub takes_keeps : (j : ℕ) → AllRely w → (p : Phase) → slice_get w.parties k ≡ Some (Awake p m) → Heeded (takes w k p m j (step_of p))
  takes_keeps j rely Idle at = h
  takes_keeps j rely Starting at = turns (Awake Starting m) (Awake (Loaded w.events) m) w.sleepers w.items at (alike w.sleepers w.items (part w.events (Awake Starting m)))
  takes_keeps j rely (Loaded t) at = registers t at
  takes_keeps j rely (Prepared t) at = h
  takes_keeps j rely (Missed t) at = parks t (low w.events == low t) at
  takes_keeps j rely Returned at = h
  takes_keeps j rely Given at = finds (w.sleepers == 0) refl at
  takes_keeps j rely (Taking n) at = takes_one n (w.sleepers == n) refl at
  takes_keeps j rely Clearing at = clears at
  takes_keeps j rely (Moving One) at = moves rely (Awake (Moving One) m) (Awake (Waking One) m) at refl (le_refl _) (le_refl _) (le_refl _) (le_refl _)
  takes_keeps j rely (Moving All) at = moves rely (Awake (Moving All) m) (Awake (Waking All) m) at refl (le_refl _) (le_refl _) (le_refl _) (le_refl _)
  takes_keeps j rely (Waking One) at = wakes j (slice_get w.parties j) refl at
  takes_keeps j rely (Waking All) at = wakes_all at
