-- Each event at a list of wakers keeps its laws.
use Rattle.std.proofs.Common.{◌≡◌, ◌≢◌, ◌⊎◌, inl, inr, ℕ, zero, suc, ◌+◌, ◌-◌, ◌≤◌, ◌==◌, Bool, true, false, Option, Some, None, List, [], ◌∷◌, map, count_by, slice_get, slice_set, refl, sym, ap, ◌∙◌, arith, le_refl, eqb-true}
use Rattle.event_count.specs.declared.wakes.seats.Seat.TheVariants.{Away, Looking, Asleep, Notified, Taken, Given, Waking, Telling, Calling}
use Rattle.event_count.specs.Sleep.Lists.{Party, At, World, Event, Enters, Looks, Leaves, Gives, Notifies, Tells, Steps, is_listed, off, put, looks, enters, leaves, gives, notifies, tells, pops, pops_at, steps, acts, happens, start, run}
use Rattle.event_count.specs.Sleep.ListLaws.{is_asleep, is_notified, is_giving, is_telling, NoItemIsLeftOnLists, NobodySleepsThroughOnLists}
use Rattle.event_count.proofs.Sleep.Counts.{one, count_set, count_at, count_le, count_none, set_get, set_other, map_get, replicate_get}

abbrev Heeds : World → Type 0
Heeds w = 1 ≤ count_by is_asleep w.parties → w.items ≤ count_by is_notified w.parties + count_by is_giving w.parties

abbrev Marks : World → Type 0
Marks w = (k m : ℕ) → slice_get w.parties k ≡ Some (At Asleep m) → (m ≡ w.times) ⊎ (1 ≤ count_by is_telling w.parties)

-- what is kept
abbrev pub Kept : World → Type 0
Kept w = Heeds w × Marks w

-- the party at k is q, and these are the items and the times
abbrev turned : World → ℕ → Party → ℕ → ℕ → World
turned w k q items times = record { items = items; times = times; parties = slice_set w.parties k q }

asleep_listed : (p : Party) → one is_asleep p ≤ one is_listed p
asleep_listed (At Asleep m) = le_refl _
asleep_listed other = omega arith

-- nobody sleeps where nobody is on the list
none_asleep : (w : World) → count_by is_listed w.parties ≡ 0 → count_by is_asleep w.parties ≡ 0
none_asleep w none = let le = count_le is_asleep is_listed asleep_listed w.parties in omega (arith, none, le)

heeds_turn : (w : World) (k : ℕ) (p q : Party) (items times : ℕ) → slice_get w.parties k ≡ Some p → one is_asleep q ≤ one is_asleep p
    → items + one is_notified p + one is_giving p ≤ w.items + one is_notified q + one is_giving q → Heeds w → Heeds (turned w k q items times)
heeds_turn w k p q items times at fewer owed h = λ some.
    let asleep = count_set is_asleep w.parties k p q at in
    let notified = count_set is_notified w.parties k p q at in
    let giving = count_set is_giving w.parties k p q at in
    let was : 1 ≤ count_by is_asleep w.parties = omega (arith, asleep, fewer, some) in
    let few = h was in
    omega (arith, notified, giving, owed, few)

-- a sleeper of the new world is the new party, or one of the old world
marks_turn : (w : World) (k : ℕ) (p q : Party) (items : ℕ) → slice_get w.parties k ≡ Some p → ((m : ℕ) → q ≡ At Asleep m → (m ≡ w.times) ⊎ (p ≡ At Asleep m))
    → (1 ≤ count_by is_asleep w.parties → one is_telling p ≤ one is_telling q) → Marks w → Marks (turned w k q items w.times)
marks_turn w k p q items at fresh still marks =
    let telling = count_set is_telling w.parties k p q at in
    let as_before : (i m : ℕ) → slice_get w.parties i ≡ Some (At Asleep m) → (m ≡ w.times) ⊎ (1 ≤ count_by is_telling (slice_set w.parties k q)) = λ i m old.
    let some : 1 ≤ count_by is_asleep w.parties = count_at is_asleep w.parties i (At Asleep m) old in
    let le = still some in
    elim (marks i m old) [ inl same ↦ inl same | inr more ↦ inr (omega (arith, telling, le, more)) ] in
    λ i m is.
    elim (set_get w.parties k i q (At Asleep m) is) [
      | inl same ↦ elim (fresh m (sym same)) [ inl now ↦ inl now | inr was ↦ as_before k m (at ∙ ap Some was) ]
      | inr old ↦ as_before i m old
    ]

-- the new party does not sleep
abbrev IsUp : Party → Type 0
IsUp q = is_asleep q ≡ false

up_fresh : (p q : Party) (t : ℕ) → IsUp q → (m : ℕ) → q ≡ At Asleep m → (m ≡ t) ⊎ (p ≡ At Asleep m)
up_fresh p q t up m is = cc

-- a party that does not sleep takes the place of p, and owes nothing
turn : (w : World) (k : ℕ) (p q : Party) (items : ℕ) → slice_get w.parties k ≡ Some p → IsUp q → one is_telling p ≤ one is_telling q
    → items + one is_notified p + one is_giving p ≤ w.items + one is_notified q + one is_giving q → Kept w → Kept (turned w k q items w.times)
turn w k p q items at up telling owed kept =
    let none : one is_asleep q ≡ 0 = cc in
    (heeds_turn w k p q items w.times at (omega (arith, none)) owed kept.0, marks_turn w k p q items at (up_fresh p q w.times up) (λ _. telling) kept.1)

-- a party stays where it is
stay : (w : World) (k : ℕ) (p : Party) → slice_get w.parties k ≡ Some p → Kept w → Kept (turned w k p w.items w.times)
stay w k p at kept = (heeds_turn w k p p w.items w.times at (le_refl _) (le_refl _) kept.0, marks_turn w k p p w.items at (λ m is. inr is) (λ _. le_refl _) kept.1)

-- a party ends its notify where nobody is on the list
ends : (w : World) (k : ℕ) (p : Party) (m : ℕ) → slice_get w.parties k ≡ Some p → count_by is_listed w.parties ≡ 0 → Kept (turned w k (At Away m) w.items w.times)
ends w k p m at nobody =
    let none = none_asleep w nobody in
    let asleep = count_set is_asleep w.parties k p (At Away m) at in (
      (λ some. absurd (omega (arith, none, asleep, some))),
      λ i n is. let some = count_at is_asleep (slice_set w.parties k (At Away m)) i (At Asleep n) is in absurd (omega (arith, none, asleep, some)),
    )

-- where no item is left, a look owes nothing
misses : (w : World) (k : ℕ) (p q : Party) → slice_get w.parties k ≡ Some p → ((m : ℕ) → q ≡ At Asleep m → (m ≡ w.times) ⊎ (p ≡ At Asleep m)) → one is_telling p ≤ one is_telling q → w.items ≡ 0
    → Kept w → Kept (turned w k q w.items w.times)
misses w k p q at fresh telling none kept = ((λ some. omega (arith, none)), marks_turn w k p q w.items at fresh (λ _. telling) kept.1)

module _ (w : World) (k : ℕ) (kept : Kept w) where
  looks_keeps : (b : Bool) → (w.items == 0) ≡ b → (p : Party) → slice_get w.parties k ≡ Some p → Kept (looks w k b p)
  looks_keeps true is (At Looking m) at = misses w k (At Looking m) (At Asleep w.times) at (λ n e. inl (cc)) (le_refl _) (eqb-true w.items 0 is) kept
  looks_keeps true is (At Asleep m) at = misses w k (At Asleep m) (At Asleep w.times) at (λ n e. inl (cc)) (le_refl _) (eqb-true w.items 0 is) kept
  looks_keeps true is (At Notified m) at = misses w k (At Notified m) (At Away w.times) at (up_fresh (At Notified m) (At Away w.times) w.times refl) (le_refl _) (eqb-true w.items 0 is) kept
  looks_keeps true is (At Away m) at = turn w k (At Away m) (At Away w.times) w.items at refl (le_refl _) (omega arith) kept
  looks_keeps true is (At Taken m) at = turn w k (At Taken m) (At Taken w.times) w.items at refl (le_refl _) (omega arith) kept
  looks_keeps true is (At Given m) at = turn w k (At Given m) (At Given w.times) w.items at refl (le_refl _) (omega arith) kept
  looks_keeps true is (At Waking m) at = turn w k (At Waking m) (At Waking w.times) w.items at refl (le_refl _) (omega arith) kept
  looks_keeps true is (At Telling m) at = turn w k (At Telling m) (At Telling w.times) w.items at refl (le_refl _) (omega arith) kept
  looks_keeps true is (At Calling m) at = turn w k (At Calling m) (At Calling w.times) w.items at refl (le_refl _) (omega arith) kept
  looks_keeps false is (At Away m) at = turn w k (At Away m) (At Away w.times) (w.items - 1) at refl (le_refl _) (omega arith) kept
  looks_keeps false is (At Looking m) at = turn w k (At Looking m) (At Taken w.times) (w.items - 1) at refl (le_refl _) (omega arith) kept
  looks_keeps false is (At Asleep m) at = turn w k (At Asleep m) (At Taken w.times) (w.items - 1) at refl (le_refl _) (omega arith) kept
  looks_keeps false is (At Notified m) at = turn w k (At Notified m) (At Away w.times) (w.items - 1) at refl (le_refl _) (taken w.items is) kept
    where
      taken : (n : ℕ) → (n == 0) ≡ false → n - 1 + 1 + 0 ≤ n + 0 + 0
      taken zero is = absurd (cc)
      taken (suc n) is = omega arith
  looks_keeps false is other at = kept

  enters_keeps : (p : Party) → slice_get w.parties k ≡ Some p → Kept (enters w k p)
  enters_keeps (At Away m) at = turn w k (At Away m) (At Looking m) w.items at refl (le_refl _) (omega arith) kept
  enters_keeps (At s m) at = stay w k (At s m) at kept

  leaves_keeps : (p : Party) → slice_get w.parties k ≡ Some p → Kept (leaves w k p)
  leaves_keeps (At Looking m) at = turn w k (At Looking m) (At Away m) w.items at refl (le_refl _) (omega arith) kept
  leaves_keeps (At Asleep m) at = turn w k (At Asleep m) (At Away m) w.items at refl (le_refl _) (omega arith) kept
  leaves_keeps (At Taken m) at = turn w k (At Taken m) (At Away m) w.items at refl (le_refl _) (omega arith) kept
  leaves_keeps (At Notified m) at = turn w k (At Notified m) (At Given m) w.items at refl (le_refl _) (omega arith) kept
  leaves_keeps (At s m) at = stay w k (At s m) at kept

  gives_keeps : (p : Party) → slice_get w.parties k ≡ Some p → Kept (gives w k p)
  gives_keeps (At Away m) at = turn w k (At Away m) (At Given m) (w.items + 1) at refl (le_refl _) (omega arith) kept
  gives_keeps other at = kept

  notifies_keeps : (p : Party) → slice_get w.parties k ≡ Some p → Kept (notifies w k p)
  notifies_keeps (At Away m) at = turn w k (At Away m) (At Given m) w.items at refl (le_refl _) (omega arith) kept
  notifies_keeps other at = kept

  tells_keeps : (p : Party) → slice_get w.parties k ≡ Some p → Kept (tells w k p)
  tells_keeps (At Away m) at = (
    heeds_turn w k (At Away m) (At Telling m) w.items (w.times + 1) at (le_refl _) (omega arith) kept.0,
    λ i n is. inr (let telling = count_set is_telling w.parties k (At Away m) (At Telling m) at in omega (arith, telling)),
  )
  tells_keeps other at = kept

  -- the party at k takes the party at j off the list, which is q then
  pops_to : (j m : ℕ) (p q : Party) → slice_get w.parties j ≡ Some p → slice_get w.parties k ≡ Some (At Waking m) → k ≢ j → IsUp q → one is_telling p ≤ one is_telling q
      → one is_notified p + one is_giving p ≡ 0 → one is_notified q + one is_giving q ≡ 1 → Kept (put (put w j q) k (At Away m))
  pops_to j m p q there at apart up telling none one_more =
      let v = turned w j q w.items w.times in
      let still : slice_get v.parties k ≡ Some (At Waking m) = set_other w.parties j k q apart ∙ at in
      let not : one is_asleep q ≡ 0 = cc in
      let asleep = count_set is_asleep w.parties j p q there in
      let notified = count_set is_notified w.parties j p q there in
      let giving = count_set is_giving w.parties j p q there in
      let asleep' = count_set is_asleep v.parties k (At Waking m) (At Away m) still in
      let notified' = count_set is_notified v.parties k (At Waking m) (At Away m) still in
      let giving' = count_set is_giving v.parties k (At Waking m) (At Away m) still in
      let marks : Marks v = marks_turn w j p q w.items there (up_fresh p q w.times up) (λ _. telling) kept.1 in (
        (λ some.
            let was : 1 ≤ count_by is_asleep w.parties = omega (arith, not, asleep, asleep', some) in
            let few = kept.0 was in
            omega (arith, none, one_more, notified, giving, notified', giving', few)),
        marks_turn v k (At Waking m) (At Away m) v.items still (up_fresh (At Waking m) (At Away m) v.times refl) (λ _. le_refl _) marks,
      )

  pops_keeps : (j m : ℕ) (p : Party) → slice_get w.parties j ≡ Some p → slice_get w.parties k ≡ Some (At Waking m) → Kept (pops w k m j (is_listed p) p)
  pops_keeps j m (At Looking n) there at = pops_to j m (At Looking n) (At Notified n) there at (λ e. (cc)) refl (le_refl _) refl refl
  pops_keeps j m (At Asleep n) there at = pops_to j m (At Asleep n) (At Notified n) there at (λ e. (cc)) refl (le_refl _) refl refl
  pops_keeps j m (At Taken n) there at = pops_to j m (At Taken n) (At Given n) there at (λ e. (cc)) refl (le_refl _) refl refl
  pops_keeps j m other there at = kept

  off_up : (p : Party) → one is_asleep (off p) ≡ 0
  off_up (At Away m) = refl
  off_up (At Looking m) = refl
  off_up (At Asleep m) = refl
  off_up (At Notified m) = refl
  off_up (At Taken m) = refl
  off_up (At Given m) = refl
  off_up (At Waking m) = refl
  off_up (At Telling m) = refl
  off_up (At Calling m) = refl

  -- the party at k takes all off the list
  calls_keeps : (m : ℕ) → Kept (record w { parties = slice_set (map off w.parties) k (At Away m) })
  calls_keeps m =
      let none : count_by is_asleep (slice_set (map off w.parties) k (At Away m)) ≡ 0 =
      count_none is_asleep (slice_set (map off w.parties) k (At Away m)) (λ i z is.
      elim (set_get (map off w.parties) k i (At Away m) z is) [
        | inl same ↦ ap (one is_asleep) same
        | inr old ↦ let x = map_get off w.parties i z old in ap (one is_asleep) x.2 ∙ off_up x.0
      ]) in (
        (λ some. absurd (omega (arith, none, some))),
        λ i n is. let some = count_at is_asleep (slice_set (map off w.parties) k (At Away m)) i (At Asleep n) is in absurd (omega (arith, none, some)),
      )

  pops_found : (j m : ℕ) → slice_get w.parties k ≡ Some (At Waking m) → (o : Option Party) → slice_get w.parties j ≡ o → Kept (pops_at w k m j o)
  pops_found j m at (Some p) there = pops_keeps j m p there at
  pops_found j m at None there = kept

  steps_keeps : (j : ℕ) (b : Bool) → (count_by is_listed w.parties == 0) ≡ b → (p : Party) → slice_get w.parties k ≡ Some p → Kept (steps w k j b p)
  steps_keeps j true is (At Given m) at = ends w k (At Given m) m at (eqb-true _ _ is)
  steps_keeps j true is (At Waking m) at = ends w k (At Waking m) m at (eqb-true _ _ is)
  steps_keeps j true is (At Telling m) at = ends w k (At Telling m) m at (eqb-true _ _ is)
  steps_keeps j true is (At Calling m) at = ends w k (At Calling m) m at (eqb-true _ _ is)
  steps_keeps j true is other at = kept
  steps_keeps j false is (At Given m) at = turn w k (At Given m) (At Waking m) w.items at refl (le_refl _) (omega arith) kept
  steps_keeps j false is (At Waking m) at = pops_found j m at (slice_get w.parties j) refl
  steps_keeps j false is (At Telling m) at = turn w k (At Telling m) (At Calling m) w.items at refl (le_refl _) (omega arith) kept
  steps_keeps j false is (At Calling m) at = calls_keeps m
  steps_keeps j false is other at = kept

acts_keeps : (w : World) (k : ℕ) (f : Party → World) → Kept w → ((p : Party) → slice_get w.parties k ≡ Some p → Kept (f p)) → (o : Option Party) → slice_get w.parties k ≡ o → Kept (acts w f o)
acts_keeps w k f kept each (Some p) at = each p at
acts_keeps w k f kept each None at = kept

happens_keeps : (w : World) (e : Event) → Kept w → Kept (happens w e)
happens_keeps w (Enters k) kept = acts_keeps w k (enters w k) kept (enters_keeps w k kept) (slice_get w.parties k) refl
happens_keeps w (Looks k) kept = acts_keeps w k (looks w k (w.items == 0)) kept (looks_keeps w k kept (w.items == 0) refl) (slice_get w.parties k) refl
happens_keeps w (Leaves k) kept = acts_keeps w k (leaves w k) kept (leaves_keeps w k kept) (slice_get w.parties k) refl
happens_keeps w (Gives k) kept = acts_keeps w k (gives w k) kept (gives_keeps w k kept) (slice_get w.parties k) refl
happens_keeps w (Notifies k) kept = acts_keeps w k (notifies w k) kept (notifies_keeps w k kept) (slice_get w.parties k) refl
happens_keeps w (Tells k) kept = acts_keeps w k (tells w k) kept (tells_keeps w k kept) (slice_get w.parties k) refl
happens_keeps w (Steps k j) kept =
    acts_keeps w k (steps w k j (count_by is_listed w.parties == 0)) kept (steps_keeps w k kept j (count_by is_listed w.parties == 0) refl) (slice_get w.parties k) refl

kept_start : (n items : ℕ) → Kept (start n items)
kept_start n items = (
  (λ some.
      let none = count_none is_asleep (start n items).parties (λ i z is. ap (one is_asleep) (replicate_get n i (At Away 0) z is)) in
      absurd (omega (arith, none, some))),
  λ k m is. let away = replicate_get n k (At Away 0) (At Asleep m) is in absurd (cc),
)

kept_run : (w : World) (es : List Event) → Kept w → Kept (run es w)
kept_run w [] kept = kept
kept_run w (e ∷ es) kept = kept_run (happens w e) es (happens_keeps w e kept)

pub no_item_is_left : NoItemIsLeftOnLists
no_item_is_left n items es k mark at =
    let w = run es (start n items) in
    let some : 1 ≤ count_by is_asleep w.parties = count_at is_asleep w.parties k (At Asleep mark) at in
    (kept_run (start n items) es (kept_start n items)).0 some

pub nobody_sleeps_through : NobodySleepsThroughOnLists
nobody_sleeps_through n items es k mark at = (kept_run (start n items) es (kept_start n items)).1 k mark at
