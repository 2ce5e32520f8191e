-- Any number of parties at a list of wakers, and what one event makes of them.
use Rattle.std.specs.Prelude.{ℕ, ◌+◌, ◌-◌, ◌==◌, Bool, true, false, Option, Some, None, List, [], ◌∷◌, map, replicate, count_by, slice_get, slice_set}
use Rattle.event_count.specs.declared.wakes.seats.Seat.{Seat, TheVariants.Away, TheVariants.Looking, TheVariants.Asleep, TheVariants.Notified, TheVariants.Taken, TheVariants.Given, TheVariants.Waking, TheVariants.Telling}
use Rattle.event_count.specs.declared.wakes.seats.ListStep.{ListStep, TheVariants.Rest, TheVariants.Load, TheVariants.TakeOne, TheVariants.TakeAll}
use Rattle.event_count.specs.Sleep.Seats.{step_of, entered_of, looked_of, taken_off_of, left_of, next_of}

-- where a party is, and how often what all wait for had come when it looked last
pub data Party : Type 0 where
  At : (seat : Seat) (mark : ℕ) → Party

-- the items, of which each is for one party; how often what all wait for has come; and the parties
pub record World : Type 0 where
  pub items : ℕ
  pub times : ℕ
  pub parties : List Party

-- before the first event each of n parties is between two calls, and there are so many items
abbrev pub start : ℕ → ℕ → World
start n items = record { items = items; times = 0; parties = replicate n (At Away 0) }

-- what may happen next
pub data Event : Type 0 where
  -- a future that has looked in vain enters the list
  Enters : (party : ℕ) → Event
  -- a party looks, and takes an item if there is one
  Looks : (party : ℕ) → Event
  -- a future comes off the list, or hands on its wake
  Leaves : (party : ℕ) → Event
  -- a party gives an item
  Gives : (party : ℕ) → Event
  -- a party notifies one, though it gave nothing
  Notifies : (party : ℕ) → Event
  -- a party makes what all wait for come
  Tells : (party : ℕ) → Event
  -- a party goes on with its notify. If that takes one off the list, it takes this one
  Steps : (party other : ℕ) → Event

-- a party at this seat is on the list
abbrev pub is_on : Seat → Bool
is_on Looking = true
is_on Asleep = true
is_on Taken = true
is_on other = false

abbrev pub is_listed : Party → Bool
is_listed (At s m) = is_on s

-- a notify takes it off the list
abbrev pub off : Party → Party
off (At s m) = At (taken_off_of s) m

-- with another party at k
abbrev pub put : World → ℕ → Party → World
put w k p = record w { parties = slice_set w.parties k p }

-- the party at k is p from now on, and has taken an item
abbrev pub takes : World → ℕ → Party → World
takes w k p = record w { items = w.items - 1; parties = slice_set w.parties k p }

-- a party looks where there is no item, or some
abbrev pub looks : World → ℕ → Bool → Party → World
looks w k true (At s m) = put w k (At (looked_of s false) w.times)
looks w k false (At Away m) = takes w k (At (looked_of Away true) w.times)
looks w k false (At Looking m) = takes w k (At (looked_of Looking true) w.times)
looks w k false (At Asleep m) = takes w k (At (looked_of Asleep true) w.times)
looks w k false (At Notified m) = takes w k (At (looked_of Notified true) w.times)
looks w k false other = w

abbrev pub enters : World → ℕ → Party → World
enters w k (At s m) = put w k (At (entered_of s) m)

abbrev pub leaves : World → ℕ → Party → World
leaves w k (At s m) = put w k (At (left_of s) m)

abbrev pub gives : World → ℕ → Party → World
gives w k (At Away m) = record w { items = w.items + 1; parties = slice_set w.parties k (At Given m) }
gives w k other = w

abbrev pub notifies : World → ℕ → Party → World
notifies w k (At Away m) = put w k (At Given m)
notifies w k other = w

abbrev pub tells : World → ℕ → Party → World
tells w k (At Away m) = record w { times = w.times + 1; parties = slice_set w.parties k (At Telling m) }
tells w k other = w

-- the party at k takes the party at j off the list
abbrev pub pops : World → ℕ → ℕ → ℕ → Bool → Party → World
pops w k m j true p = put (put w j (off p)) k (At (next_of Waking false) m)
pops w k m j false p = w

abbrev pub pops_at : World → ℕ → ℕ → ℕ → Option Party → World
pops_at w k m j (Some p) = pops w k m j (is_listed p) p
pops_at w k m j None = w

-- the party at k, at the seat s, takes this step, where nobody is on the list or somebody is
abbrev pub takes_step : World → ℕ → Seat → ℕ → ℕ → Bool → ListStep → World
takes_step w k s m j true Rest = w
takes_step w k s m j true Load = put w k (At (next_of s true) m)
takes_step w k s m j true TakeOne = put w k (At (next_of s true) m)
takes_step w k s m j true TakeAll = put w k (At (next_of s true) m)
takes_step w k s m j false Rest = w
takes_step w k s m j false Load = put w k (At (next_of s false) m)
takes_step w k s m j false TakeOne = pops_at w k m j (slice_get w.parties j)
takes_step w k s m j false TakeAll = record w { parties = slice_set (map off w.parties) k (At (next_of s false) m) }

-- the next step of a notify
abbrev pub steps : World → ℕ → ℕ → Bool → Party → World
steps w k j nobody (At s m) = takes_step w k s m j nobody (step_of s)

abbrev pub acts : World → (Party → World) → Option Party → World
acts w f (Some p) = f p
acts w f None = w

-- what does not fit changes nothing
abbrev pub happens : World → Event → World
happens w (Enters k) = acts w (enters w k) (slice_get w.parties k)
happens w (Looks k) = acts w (looks w k (w.items == 0)) (slice_get w.parties k)
happens w (Leaves k) = acts w (leaves w k) (slice_get w.parties k)
happens w (Gives k) = acts w (gives w k) (slice_get w.parties k)
happens w (Notifies k) = acts w (notifies w k) (slice_get w.parties k)
happens w (Tells k) = acts w (tells w k) (slice_get w.parties k)
happens w (Steps k j) = acts w (steps w k j (count_by is_listed w.parties == 0)) (slice_get w.parties k)

abbrev pub run : List Event → World → World
run [] w = w
run (e ∷ es) w = run es (happens w e)
