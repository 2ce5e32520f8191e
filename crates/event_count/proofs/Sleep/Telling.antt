-- Each event keeps what those may rely on that wait for what all wait for.
use Rattle.std.proofs.Common.{◌≡◌, ◌≢◌, ◌⊎◌, inl, inr, ℕ, ◌+◌, ◌-◌, ◌^◌, ◌<◌, ◌≤◌, ◌==◌, Bool, true, false, cond, if◌then◌else◌, Option, Some, None, map, count_by, slice_get, slice_set, refl, sym, ap, ◌∙◌, subst, arith, le_refl, le_trans, eqb-true, eq-eqb}
use Rattle.std.proofs.Math.Nat.{eq-or-lt_of_le}
use Rattle.event_count.specs.{declared.wakes.steps.Phase.Phase, declared.wakes.steps.Whom.Whom, declared.wakes.steps.Whom.TheVariants.One, declared.wakes.steps.Whom.TheVariants.All, Sleep.Steps.low, Sleep.Steps.step_of, Sleep.Laws.is_telling}
use Rattle.event_count.specs.declared.wakes.steps.Phase.TheVariants.{Idle, Starting, Loaded, Prepared, Missed, Returned, Given, Taking, Clearing, Moving, Waking}
use Rattle.event_count.specs.Sleep.World.{Party, Awake, Asleep, World, Event, Steps, Rises, Prepares, Looks, Leaves, Gives, Tells, is_asleep, risen, put, goes_on, counts_late, wakes_one, takes, rises, looks, leaves, prepares, gives, tells, acts, happens}
use Rattle.event_count.proofs.Sleep.Counts.{one, count_set, count_le, count_map, count_none, set_get, set_other, map_get, map_at}
use Rattle.event_count.proofs.Sleep.Relying.{is_unannounced, is_plain, MayPark, MaySleep, Relies, AllRely, keeps, turned, turned_keeps, plain_keeps}

-- the same low half, and less than 2 ^ 32 apart
pub same_low : (t e : ℕ) → t ≤ e → e < t + 2 ^ 32 → low e ≡ low t → t ≡ e
same_low t e le near same = omega arith

unannounced_tells : (n : ℕ) (p : Party) → one (is_unannounced n) p ≤ one (is_telling n) p
unannounced_tells n (Awake Clearing m) = le_refl _
unannounced_tells n (Awake (Moving All) m) = le_refl _
unannounced_tells n other = omega arith

-- who may park on the ticket that `EVENTS` still is may sleep
may_sleep : (w : World) (m : ℕ) → MayPark w m → MaySleep w m
may_sleep w m h =
    (h.0, λ n since come. (let more = count_le (is_unannounced n) (is_telling n) (unannounced_tells n) w.parties in let some = h.1 n since come in omega (arith, some, more)))

module _ (w : World) (k m : ℕ) (rely : AllRely w) where
  -- a party that does not tell goes from p to q, and `EVENTS` stays
  stays : (p q : Party) (sleepers items late : ℕ) → slice_get w.parties k ≡ Some p → is_plain p ≡ true → Relies (turned w k q w.events sleepers items late) q → AllRely (turned w k q w.events sleepers items late)
  stays p q sleepers items late at plain fits = plain_keeps w k p q w.events sleepers items late at plain (le_refl _) fits rely

  -- a park on a ticket sleeps if the low half of `EVENTS` is the ticket's
  sleeps : (t late : ℕ) → (low w.events == low t) ≡ true → slice_get w.parties k ≡ Some (Awake (Missed t) m) → AllRely (turned w k (Asleep t w.events m) w.events w.sleepers w.items late)
  sleeps t late is at =
      let p = Awake (Missed t) m in
      let q = Asleep t w.events m in
      let f = rely k p at in
      stays p q w.sleepers w.items late at refl (λ near.
      let may = may_sleep w m (f.1 (same_low t w.events f.0 near (eqb-true (low w.events) (low t) is))) in
      (may.0, λ n since come. (let telling = count_set (is_telling n) w.parties k p q at in let some = may.1 n since come in omega (arith, telling, some))))

  parks : (t : ℕ) (b : Bool) → (low w.events == low t) ≡ b → slice_get w.parties k ≡ Some (Awake (Missed t) m)
      → AllRely (if b then put (counts_late w t) k (Asleep t w.events m) else goes_on w k (Missed t) m 0)
  parks t true is at = sleeps t (w.late + (if w.events == t then 0 else 1)) is at
  parks t false is at = stays (Awake (Missed t) m) (Awake Returned m) w.sleepers w.items w.late at refl tt

  finds : (b : Bool) → slice_get w.parties k ≡ Some (Awake Given m) → AllRely (put w k (Awake (if b then Idle else Taking w.sleepers) m))
  finds true at = stays (Awake Given m) (Awake Idle m) w.sleepers w.items w.late at refl tt
  finds false at = stays (Awake Given m) (Awake (Taking w.sleepers) m) w.sleepers w.items w.late at refl tt

  -- who tells takes all off `SLEEPERS`, and has not announced it yet
  clears : slice_get w.parties k ≡ Some (Awake Clearing m) → AllRely (turned w k (Awake (Moving All) m) w.events 0 w.items w.late)
  clears at = turned_keeps w k (Awake Clearing m) (Awake (Moving All) m) w.events 0 w.items w.late at (le_refl _) tt (λ same n. le_refl _) (λ asleep n. le_refl _) rely

  -- once `EVENTS` has moved, nobody parks on an older ticket
  moves : (whom : Whom) → ((n : ℕ) → one (is_telling n) (Awake (Moving whom) m) ≤ one (is_telling n) (Awake (Waking whom) m)) → slice_get w.parties k ≡ Some (Awake (Moving whom) m)
      → AllRely (turned w k (Awake (Waking whom) m) (w.events + 1) w.sleepers w.items w.late)
  moves whom tells at = turned_keeps w k (Awake (Moving whom) m) (Awake (Waking whom) m) (w.events + 1) w.sleepers w.items w.late at (omega arith) tt
      (λ same n. absurd (omega (arith, same))) (λ asleep. tells) rely

  nobody : (b : Bool) → slice_get w.parties k ≡ Some (Awake (Waking One) m) → AllRely (if b then goes_on w k (Waking One) m 0 else w)
  nobody true at = stays (Awake (Waking One) m) (Awake Idle m) w.sleepers w.items w.late at refl tt
  nobody false at = rely

  -- a sleeper wakes up
  rises_up : (j t parked mark : ℕ) → slice_get w.parties j ≡ Some (Asleep t parked mark) → AllRely (put w j (Awake Returned mark))
  rises_up j t parked mark at = plain_keeps w j (Asleep t parked mark) (Awake Returned mark) w.events w.sleepers w.items w.late at refl (le_refl _) tt rely

-- a wake of one
wakes : (w : World) (k m j : ℕ) (o : Option Party) → slice_get w.parties j ≡ o → slice_get w.parties k ≡ Some (Awake (Waking One) m) → AllRely w → AllRely (wakes_one w k (Waking One) m j o)
wakes w k m j (Some (Asleep t parked mark)) there here rely =
    let v = put w j (Awake Returned mark) in
    let apart : k ≢ j = λ e. (cc) in
    let still : slice_get v.parties k ≡ Some (Awake (Waking One) m) = set_other w.parties j k (Awake Returned mark) apart ∙ here in
    plain_keeps v k (Awake (Waking One) m) (Awake Idle m) v.events v.sleepers v.items v.late still refl (le_refl _) tt (rises_up w j mark rely j t parked mark there)
wakes w k m j (Some (Awake p mark)) there here rely = nobody w k m rely (count_by is_asleep w.parties == 0) here
wakes w k m j None there here rely = nobody w k m rely (count_by is_asleep w.parties == 0) here

-- what is the same of a sleeper and of who has just woken up
pub same_risen : (f : Party → Bool) → ((t parked m : ℕ) → one f (Awake Returned m) ≡ one f (Asleep t parked m)) → (p : Party) → one f (risen p) ≡ one f p
same_risen f same (Awake p m) = refl
same_risen f same (Asleep t parked m) = same t parked m

none_asleep : (p : Party) → one is_asleep (risen p) ≡ 0
none_asleep (Awake p m) = refl
none_asleep (Asleep t parked m) = refl

pub none_risen : (w : World) → count_by is_asleep (map risen w.parties) ≡ 0
none_risen w = count_none is_asleep (map risen w.parties) (λ i x is. let y = map_get risen w.parties i x is in ap (one is_asleep) y.2 ∙ none_asleep y.0)

risen_fits : (w v : World) (i : ℕ) (p r : Party) → slice_get w.parties i ≡ Some p → r ≡ risen p → Relies v r ⊎ (slice_get w.parties i ≡ Some r)
risen_fits w v i (Awake p m) r at is = inr (at ∙ ap (λ x. Some x) (sym is))
risen_fits w v i (Asleep t parked m) r at is = inl (subst (Relies v) (sym is) tt)

-- after a wake of all nobody sleeps
wakes_all : (w : World) (k m : ℕ) → AllRely w → slice_get w.parties k ≡ Some (Awake (Waking All) m) → AllRely (goes_on (record w { parties = map risen w.parties }) k (Waking All) m 0)
wakes_all w k m rely at =
    let p = Awake (Waking All) m in
    let q = Awake Idle m in
    let up = map risen w.parties in
    let v = goes_on (record w { parties = up }) k (Waking All) m 0 in
    let there : slice_get up k ≡ Some p = map_at risen w.parties k p at in
    let none = none_risen w in
    keeps w v (record {
      events = le_refl _;
      parties = λ i r is. elim (set_get up k i q r is) [
        | inl same ↦ inl (subst (Relies v) (sym same) tt)
        | inr old ↦ let y = map_get risen w.parties i r old in risen_fits w v i y.0 r y.1 y.2
      ];
      park = λ stays mark h. (
        h.0,
        λ n since come. (let unannounced = count_map (is_unannounced n) risen (same_risen (is_unannounced n) (λ t parked m. refl)) w.parties in let a = count_set (is_unannounced n) up k p q there in let some = h.1 n since come in omega (arith, a, some, unannounced)),
      );
      sleep = λ asleep. absurd (let a = count_set is_asleep up k p q there in omega (arith, a, none, asleep));
    }) rely

takes_keeps : (w : World) (k m j : ℕ) (p : Phase) → slice_get w.parties k ≡ Some (Awake p m) → AllRely w → AllRely (takes w k p m j (step_of p))
takes_keeps w k m j Idle at rely = rely
takes_keeps w k m j Starting at rely = plain_keeps w k (Awake Starting m) (Awake (Loaded w.events) m) w.events w.sleepers w.items w.late at refl (le_refl _) (le_refl _) rely
takes_keeps w k m j (Loaded t) at rely = plain_keeps w k (Awake (Loaded t) m) (Awake (Prepared t) m) w.events (w.sleepers + 1) w.items w.late at refl (le_refl _) (rely k (Awake (Loaded t) m) at) rely
takes_keeps w k m j (Prepared t) at rely = rely
takes_keeps w k m j (Missed t) at rely = parks w k m rely t (low w.events == low t) refl at
takes_keeps w k m j Returned at rely = rely
takes_keeps w k m j Given at rely = finds w k m rely (w.sleepers == 0) at
takes_keeps w k m j (Taking n) at rely = plain_keeps w k (Awake (Taking n) m) (Awake (Moving One) m) w.events (if w.sleepers == n then n - 1 else w.sleepers) w.items w.late at refl (le_refl _) tt rely
takes_keeps w k m j Clearing at rely = clears w k m rely at
takes_keeps w k m j (Moving One) at rely = moves w k m rely One (λ n. omega arith) at
takes_keeps w k m j (Moving All) at rely = moves w k m rely All (λ n. le_refl _) at
takes_keeps w k m j (Waking One) at rely = wakes w k m j (slice_get w.parties j) refl at rely
takes_keeps w k m j (Waking All) at rely = wakes_all w k m rely at

-- somebody tells for the n-th time, for each n so far: also for the last
tells_anew : (times n old new : ℕ) → new ≡ old + cond (times + 1 == n) 1 0 → (n ≤ times → 1 ≤ old) → n ≤ times + 1 → 1 ≤ new
tells_anew times n old new e was come = elim (eq-or-lt_of_le come) [
  | inl last ↦ (let itself : ◌≡◌ {A = ℕ} (cond (times + 1 == n) 1 0) 1 = ap {B = ℕ} (λ (b : Bool). cond b 1 0) (eq-eqb (times + 1) n (sym last)) in omega (arith, e, itself))
  | inr before ↦ (let some = was (omega (arith, before)) in omega (arith, e, some))
]

module _ (w : World) (k m : ℕ) (rely : AllRely w) where
  -- a look of a party that has no ticket
  looks_on : (p : Phase) (b : Bool) → slice_get w.parties k ≡ Some (Awake p m) → is_plain (Awake p m) ≡ true
      → AllRely (if b then put w k (Awake Idle w.times) else put (record w { items = w.items - 1 }) k (Awake Idle w.times))
  looks_on p true at plain = stays w k m rely (Awake p m) (Awake Idle w.times) w.sleepers w.items w.late at plain tt
  looks_on p false at plain = stays w k m rely (Awake p m) (Awake Idle w.times) w.sleepers (w.items - 1) w.late at plain tt

  -- who looks once it has its ticket and finds nothing may park: nothing has come since
  looks_prepared : (t : ℕ) (b : Bool) → slice_get w.parties k ≡ Some (Awake (Prepared t) m)
      → AllRely (if b then put w k (Awake (Missed t) w.times) else put (record w { items = w.items - 1 }) k (Awake Idle w.times))
  looks_prepared t true at = stays w k m rely (Awake (Prepared t) m) (Awake (Missed t) w.times) w.sleepers w.items w.late at refl (rely k (Awake (Prepared t) m) at, λ same. (le_refl _, λ n since come. absurd (omega (arith, since, come))))
  looks_prepared t false at = stays w k m rely (Awake (Prepared t) m) (Awake Idle w.times) w.sleepers (w.items - 1) w.late at refl tt

  looks_keeps : (p : Phase) → slice_get w.parties k ≡ Some (Awake p m) → AllRely (looks w k p (step_of p))
  looks_keeps Idle at = looks_on Idle (w.items == 0) at refl
  looks_keeps (Prepared t) at = looks_prepared t (w.items == 0) at
  looks_keeps Returned at = looks_on Returned (w.items == 0) at refl
  looks_keeps other at = rely

  leaves_keeps : (p : Phase) → slice_get w.parties k ≡ Some (Awake p m) → AllRely (leaves w k m p)
  leaves_keeps (Prepared t) at = stays w k m rely (Awake (Prepared t) m) (Awake Idle m) w.sleepers w.items w.late at refl tt
  leaves_keeps other at = rely

  prepares_keeps : (p : Phase) → slice_get w.parties k ≡ Some (Awake p m) → AllRely (prepares w k m p)
  prepares_keeps Idle at = stays w k m rely (Awake Idle m) (Awake Starting m) w.sleepers w.items w.late at refl tt
  prepares_keeps other at = rely

  gives_keeps : (p : Phase) → slice_get w.parties k ≡ Some (Awake p m) → AllRely (gives w k m p)
  gives_keeps Idle at = stays w k m rely (Awake Idle m) (Awake Given m) w.sleepers (w.items + 1) w.late at refl tt
  gives_keeps other at = rely

  tells_keeps : (p : Phase) → slice_get w.parties k ≡ Some (Awake p m) → AllRely (tells w k m p)
  tells_keeps Idle at =
      let next = w.times + 1 in
      let p = Awake Idle m in
      let q = Awake Clearing next in
      let v = put (record w { times = next }) k q in
      let turns = λ (f : Party → Bool). count_set f w.parties k p q at in
      let tell : (n : ℕ) (f : Party → Bool) → one f p ≡ 0 → one f q ≡ one (is_telling n) q → (n ≤ w.times → 1 ≤ count_by f w.parties) → n ≤ next → 1 ≤ count_by f (slice_set w.parties k q) = λ n f no alike old come.
      tells_anew w.times n (count_by f w.parties) (count_by f (slice_set w.parties k q)) (let a = turns f in omega (arith, a, no, alike)) old come in
      keeps w v (record {
        events = le_refl _;
        parties = λ i r is. elim (set_get w.parties k i q r is) [ inl same ↦ inl (subst (Relies v) (sym same) tt) | inr old ↦ inr old ];
        park = λ stays mark h. (le_trans h.0 (omega arith), λ n since come. tell n (is_unannounced n) refl refl (λ was. h.1 n since was) come);
        sleep = λ asleep mark h. (le_trans h.0 (omega arith), λ n since come. tell n (is_telling n) refl refl (λ was. h.1 n since was) come);
      }) rely
  tells_keeps other at = rely

pub acts_keeps : (P : World → Type 0) (w : World) (f : Phase → ℕ → World) (o : Option Party) → ((p : Phase) (m : ℕ) → o ≡ Some (Awake p m) → P (f p m)) → P w → P (acts w f o)
acts_keeps P w f (Some (Awake p m)) each kept = each p m refl
acts_keeps P w f (Some (Asleep t parked m)) each kept = kept
acts_keeps P w f None each kept = kept

-- a park that returns for no reason
rises_keeps : (w : World) (k : ℕ) (o : Option Party) → slice_get w.parties k ≡ o → AllRely w → AllRely (rises w k o)
rises_keeps w k (Some (Asleep t parked m)) at rely = rises_up w k m rely k t parked m at
rises_keeps w k (Some (Awake p m)) at rely = rely
rises_keeps w k None at rely = rely

pub happens_keeps : (w : World) (e : Event) → AllRely w → AllRely (happens w e)
happens_keeps w (Steps k j) rely = acts_keeps AllRely w (λ p m. takes w k p m j (step_of p)) (slice_get w.parties k) (λ p m at. takes_keeps w k m j p at rely) rely
happens_keeps w (Rises k) rely = rises_keeps w k (slice_get w.parties k) refl rely
happens_keeps w (Prepares k) rely = acts_keeps AllRely w (λ p m. prepares w k m p) (slice_get w.parties k) (λ p m at. prepares_keeps w k m rely p at) rely
happens_keeps w (Looks k) rely = acts_keeps AllRely w (λ p m. looks w k p (step_of p)) (slice_get w.parties k) (λ p m at. looks_keeps w k m rely p at) rely
happens_keeps w (Leaves k) rely = acts_keeps AllRely w (λ p m. leaves w k m p) (slice_get w.parties k) (λ p m at. leaves_keeps w k m rely p at) rely
happens_keeps w (Gives k) rely = acts_keeps AllRely w (λ p m. gives w k m p) (slice_get w.parties k) (λ p m at. gives_keeps w k m rely p at) rely
happens_keeps w (Tells k) rely = acts_keeps AllRely w (λ p m. tells w k m p) (slice_get w.parties k) (λ p m at. tells_keeps w k m rely p at) rely
