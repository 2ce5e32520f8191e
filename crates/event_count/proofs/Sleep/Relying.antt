-- What each event keeps for those that wait for what all wait for.
use Rattle.std.proofs.Common.{◌≡◌, ◌⊎◌, inl, inr, ℕ, ◌+◌, ◌^◌, ◌<◌, ◌≤◌, ◌==◌, Bool, true, false, Some, count_by, slice_get, slice_set, refl, sym, subst, arith}
use Rattle.event_count.specs.declared.wakes.steps.{Phase.TheVariants.Loaded, Phase.TheVariants.Prepared, Phase.TheVariants.Missed, Phase.TheVariants.Clearing, Phase.TheVariants.Moving, Phase.TheVariants.Waking, Whom.TheVariants.All}
use Rattle.event_count.specs.Sleep.{World.Party, World.Awake, World.Asleep, World.World, World.is_asleep, Laws.is_telling}
use Rattle.event_count.proofs.Sleep.Counts.{one, count_at, count_set, set_get}

-- it made what all wait for come for the n-th time, and has not moved `EVENTS`
abbrev pub is_unannounced : ℕ → Party → Bool
is_unannounced n (Awake Clearing m) = m == n
is_unannounced n (Awake (Moving All) m) = m == n
is_unannounced n other = false

-- for a party that is about to park: who tells since it looked has not moved `EVENTS`
abbrev pub MayPark : World → ℕ → Type 0
MayPark w m = (m ≤ w.times) × ((n : ℕ) → m < n → n ≤ w.times → 1 ≤ count_by (is_unannounced n) w.parties)

-- for a party that sleeps
abbrev pub MaySleep : World → ℕ → Type 0
MaySleep w m = (m ≤ w.times) × ((n : ℕ) → m < n → n ≤ w.times → 1 ≤ count_by (is_telling n) w.parties)

-- what a party may rely on
abbrev pub Relies : World → Party → Type 0
Relies w (Asleep t at m) = at < t + 2 ^ 32 → MaySleep w m
Relies w (Awake (Loaded t) m) = t ≤ w.events
Relies w (Awake (Prepared t) m) = t ≤ w.events
Relies w (Awake (Missed t) m) = (t ≤ w.events) × (t ≡ w.events → MayPark w m)
Relies w other = Unit {0}

abbrev pub AllRely : World → Type 0
AllRely w = (k : ℕ) (p : Party) → slice_get w.parties k ≡ Some p → Relies w p

-- what an event owes that makes v of w
pub record Changes (w v : World) : Type 0 where
  pub events : w.events ≤ v.events
  -- a party of v fits, or was a party of w
  pub parties : (k : ℕ) (p : Party) → slice_get v.parties k ≡ Some p → Relies v p ⊎ (slice_get w.parties k ≡ Some p)
  pub park : v.events ≡ w.events → (m : ℕ) → MayPark w m → MayPark v m
  pub sleep : 1 ≤ count_by is_asleep v.parties → (m : ℕ) → MaySleep w m → MaySleep v m

still_fits : (w v : World) → Changes w v → (k : ℕ) (p : Party) → slice_get v.parties k ≡ Some p → Relies w p → Relies v p
still_fits w v c k (Asleep t at m) is f = λ near.
    let asleep : 1 ≤ count_by is_asleep v.parties = count_at is_asleep v.parties k (Asleep t at m) is in c.sleep asleep m (f near)
still_fits w v c k (Awake (Loaded t) m) is f = let grows = c.events in omega (arith, f)
still_fits w v c k (Awake (Prepared t) m) is f = let grows = c.events in omega (arith, f)
still_fits w v c k (Awake (Missed t) m) is f =
    let grows = c.events in let low = f.0 in (
      omega (arith, low, grows),
      λ same.
          let stays : v.events ≡ w.events = omega (arith, low, grows, same) in
          let now : t ≡ w.events = omega (arith, low, grows, same) in c.park stays m (f.1 now),
    )
still_fits w v c k (Awake p m) is f = tt

pub keeps : (w v : World) → Changes w v → AllRely w → AllRely v
keeps w v c rely = λ k p is. elim (c.parties k p is) [ inl f ↦ f | inr old ↦ still_fits w v c k p is (rely k p old) ]

-- the party at k is q, the words are these, and so many items are left
abbrev pub turned : World → ℕ → Party → ℕ → ℕ → ℕ → ℕ → World
turned w k q events sleepers items late = record { events = events; sleepers = sleepers; items = items; times = w.times; late = late; parties = slice_set w.parties k q }

-- somebody is still such
still : (a b p q : ℕ) → b + p ≡ a + q → p ≤ q → 1 ≤ a → 1 ≤ b
still a b p q e le some = omega (arith, e, le, some)

-- the party goes from p to q
pub turned_keeps : (w : World) (k : ℕ) (p q : Party) (events sleepers items late : ℕ) → slice_get w.parties k ≡ Some p → w.events ≤ events → Relies (turned w k q events sleepers items late) q
    → (events ≡ w.events → (n : ℕ) → one (is_unannounced n) p ≤ one (is_unannounced n) q)
    → (1 ≤ count_by is_asleep (slice_set w.parties k q) → (n : ℕ) → one (is_telling n) p ≤ one (is_telling n) q)
    → AllRely w → AllRely (turned w k q events sleepers items late)
turned_keeps w k p q events sleepers items late at grows fits unannounced telling rely = keeps w (turned w k q events sleepers items late) (record {
  events = grows;
  parties = λ i r is. elim (set_get w.parties k i q r is) [ inl same ↦ inl (subst (Relies (turned w k q events sleepers items late)) (sym same) fits) | inr old ↦ inr old ];
  park = λ stays m h. (
    h.0,
    λ n since come. still (count_by (is_unannounced n) w.parties) (count_by (is_unannounced n) (slice_set w.parties k q)) _ _ (count_set (is_unannounced n) w.parties k p q at) (unannounced stays n) (h.1 n since come),
  );
  sleep = λ asleep m h. (
    h.0,
    λ n since come. still (count_by (is_telling n) w.parties) (count_by (is_telling n) (slice_set w.parties k q)) _ _ (count_set (is_telling n) w.parties k p q at) (telling asleep n) (h.1 n since come),
  );
}) rely

-- it does not tell
abbrev pub is_plain : Party → Bool
is_plain (Awake Clearing m) = false
is_plain (Awake (Moving All) m) = false
is_plain (Awake (Waking All) m) = false
is_plain other = true

plain_unannounced : (n : ℕ) (p : Party) → is_plain p ≡ true → one (is_unannounced n) p ≡ 0
plain_unannounced n (Awake Clearing m) is = absurd (cc)
plain_unannounced n (Awake (Moving All) m) is = absurd (cc)
plain_unannounced n other is = refl

plain_telling : (n : ℕ) (p : Party) → is_plain p ≡ true → one (is_telling n) p ≡ 0
plain_telling n (Awake Clearing m) is = absurd (cc)
plain_telling n (Awake (Moving All) m) is = absurd (cc)
plain_telling n (Awake (Waking All) m) is = absurd (cc)
plain_telling n other is = refl

pub plain_keeps : (w : World) (k : ℕ) (p q : Party) (events sleepers items late : ℕ) → slice_get w.parties k ≡ Some p → is_plain p ≡ true → w.events ≤ events
    → Relies (turned w k q events sleepers items late) q → AllRely w → AllRely (turned w k q events sleepers items late)
plain_keeps w k p q events sleepers items late at plain grows fits rely = turned_keeps w k p q events sleepers items late at grows fits
    (λ stays n. (let a = plain_unannounced n p plain in omega (arith, a)))
    (λ asleep n. (let a = plain_telling n p plain in omega (arith, a)))
    rely
