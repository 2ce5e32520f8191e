-- What holds in every run of parties at a list of wakers.
use Rattle.std.specs.Prelude.{◌≡◌, ℕ, ◌+◌, ◌≤◌, ◌⊎◌, Bool, true, false, Some, List, count_by, slice_get}
use Rattle.event_count.specs.declared.wakes.seats.Seat.TheVariants.{Asleep, Notified, Given, Waking, Telling, Calling}
use Rattle.event_count.specs.Sleep.Lists.{Party, At, Event, start, run}

abbrev pub is_asleep : Party → Bool
is_asleep (At Asleep m) = true
is_asleep other = false

-- it was woken, and has not looked again
abbrev pub is_notified : Party → Bool
is_notified (At Notified m) = true
is_notified other = false

-- its notify of one has not ended
abbrev pub is_giving : Party → Bool
is_giving (At Given m) = true
is_giving (At Waking m) = true
is_giving other = false

-- its notify of all has not ended
abbrev pub is_telling : Party → Bool
is_telling (At Telling m) = true
is_telling (At Calling m) = true
is_telling other = false

-- while a future sleeps, there are at most as many items as futures that were woken and have not looked again, and notifies of one that have not ended
abbrev pub NoItemIsLeftOnLists : Type 0
NoItemIsLeftOnLists =
    (parties items : ℕ) (es : List Event) (k mark : ℕ) → slice_get (run es (start parties items)).parties k ≡ Some (At Asleep mark)
    → (run es (start parties items)).items ≤ count_by is_notified (run es (start parties items)).parties + count_by is_giving (run es (start parties items)).parties

-- what all wait for has not come since a sleeper looked, or a notify of all has not ended
abbrev pub NobodySleepsThroughOnLists : Type 0
NobodySleepsThroughOnLists =
    (parties items : ℕ) (es : List Event) (k mark : ℕ) → slice_get (run es (start parties items)).parties k ≡ Some (At Asleep mark)
    → (mark ≡ (run es (start parties items)).times) ⊎ (1 ≤ count_by is_telling (run es (start parties items)).parties)
