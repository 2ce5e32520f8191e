-- What holds in every run.
use Rattle.std.specs.Prelude.{◌≡◌, ℕ, ◌+◌, ◌^◌, ◌<◌, ◌≤◌, ◌==◌, ◌⊎◌, Bool, true, false, Some, List, count_by, slice_get}
use Rattle.event_count.specs.declared.wakes.steps.{Phase.TheVariants.Returned, Phase.TheVariants.Given, Phase.TheVariants.Taking, Phase.TheVariants.Clearing, Phase.TheVariants.Moving, Phase.TheVariants.Waking, Whom.TheVariants.One, Whom.TheVariants.All}
use Rattle.event_count.specs.Sleep.World.{Party, Awake, Asleep, World, Event, is_asleep, start, run}

-- it was woken, and its caller has not looked again
abbrev pub is_woken : Party → Bool
is_woken (Awake Returned m) = true
is_woken other = false

-- it has given an item, and its notify has not ended
abbrev pub is_giving : Party → Bool
is_giving (Awake Given m) = true
is_giving (Awake (Taking n) m) = true
is_giving (Awake (Moving One) m) = true
is_giving (Awake (Waking One) m) = true
is_giving other = false

-- it made what all wait for come for the n-th time, and its notify has not ended
abbrev pub is_telling : ℕ → Party → Bool
is_telling n (Awake Clearing m) = m == n
is_telling n (Awake (Moving All) m) = m == n
is_telling n (Awake (Waking All) m) = m == n
is_telling n other = false

-- it has taken all off `SLEEPERS` to wake all, and its notify has not ended
abbrev pub is_rousing : Party → Bool
is_rousing (Awake (Moving All) m) = true
is_rousing (Awake (Waking All) m) = true
is_rousing other = false

-- the party at k sleeps, with fewer than 2 ^ 32 moves of `EVENTS` between its ticket and its park. When its caller looked, what all wait for had come so often
pub record Sleeps (w : World) (k mark : ℕ) : Type 0 where
  pub ticket : ℕ
  pub parked : ℕ
  pub at : slice_get w.parties k ≡ Some (Asleep ticket parked mark)
  pub near : parked < ticket + 2 ^ 32

-- a party made what all wait for come for the n-th time, and its notify has not ended
abbrev pub IsTelling : World → ℕ → Type 0
IsTelling w n = (k : ℕ) × (p : Party) × (slice_get w.parties k ≡ Some p) × (is_telling n p ≡ true)

-- each party that has made what all wait for come since has not ended its notify
abbrev pub HasMissedNothing : World → ℕ → Type 0
HasMissedNothing w mark = (mark ≤ w.times) × ((n : ℕ) → mark < n → n ≤ w.times → IsTelling w n)

abbrev pub NobodySleepsThrough : Type 0
NobodySleepsThrough = (parties items : ℕ) (es : List Event) (k mark : ℕ) → Sleeps (run es (start parties items)) k mark → HasMissedNothing (run es (start parties items)) mark

-- somebody is on the way to each of so many items, or a notify of one to each sleeper
abbrev pub AreHeeded : ℕ → World → Type 0
AreHeeded items w = (items ≤ count_by is_woken w.parties + count_by is_giving w.parties) ⊎ (count_by is_asleep w.parties ≤ count_by is_giving w.parties)

-- a notify of all is on the way
abbrev pub AreRoused : World → Type 0
AreRoused w = 1 ≤ count_by is_rousing w.parties

abbrev pub NoItemIsLeft : Type 0
NoItemIsLeft = (parties items : ℕ) (es : List Event) → (run es (start parties items)).late ≡ 0 → (k mark : ℕ) → Sleeps (run es (start parties items)) k mark → AreHeeded (run es (start parties items)).items (run es (start parties items)) ⊎ AreRoused (run es (start parties items))
