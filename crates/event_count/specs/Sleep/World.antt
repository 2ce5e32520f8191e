-- Any number of parties over the two words, and what one event makes of them.
use Rattle.std.specs.Prelude.{ℕ, ◌+◌, ◌-◌, ◌==◌, Bool, true, false, if◌then◌else◌, Option, Some, List, [], ◌∷◌, map, replicate, count_by, slice_get, slice_set}
use Rattle.event_count.specs.declared.wakes.steps.Phase.{Phase, TheVariants.Idle, TheVariants.Starting, TheVariants.Prepared, TheVariants.Missed, TheVariants.Given, TheVariants.Clearing}
use Rattle.event_count.specs.declared.wakes.steps.{Step.Step, Step.TheVariants.Rest, Step.TheVariants.Load, Step.TheVariants.Add, Step.TheVariants.Take, Step.TheVariants.Clear, Step.TheVariants.Park, Step.TheVariants.Wake, Word.Word, Word.Word as word, Whom.TheVariants.One, Whom.TheVariants.All}
use Rattle.event_count.specs.Sleep.Steps.{low, step_of, after_of, looked_of}

-- a party: where it is; or that it sleeps, the ticket on which it parked, and what `EVENTS` was then. The mark is what `times` was when its caller last looked, or once it had raised it
pub data Party : Type 0 where
  Awake : (phase : Phase) (mark : ℕ) → Party
  Asleep : (ticket parked mark : ℕ) → Party

-- the two words; the items, of which each is for one party; how often what all wait for has come; how often a party slept though `EVENTS` was no longer its ticket, which wants 2 ^ 32 moves
-- between its ticket and its park; and the parties
pub record World : Type 0 where
  pub events : ℕ
  pub sleepers : ℕ
  pub items : ℕ
  pub times : ℕ
  pub late : ℕ
  pub parties : List Party

-- before the first event each of n parties is between two calls, and there are so many items
abbrev pub start : ℕ → ℕ → World
start n items = record { events = 0; sleepers = 0; items = items; times = 0; late = 0; parties = replicate n (Awake Idle 0) }

-- what may happen next
pub data Event : Type 0 where
  -- the party takes its next step. If that is a wake of one, it wakes this sleeper
  Steps : (party sleeper : ℕ) → Event
  -- the party's park returns for no reason
  Rises : (party : ℕ) → Event
  -- the party's caller begins to prepare
  Prepares : (party : ℕ) → Event
  -- its caller looks, and takes an item if there is one
  Looks : (party : ℕ) → Event
  -- its caller does not wait after all: what all wait for is there, or it gives up
  Leaves : (party : ℕ) → Event
  -- its caller gives an item, and notifies one
  Gives : (party : ℕ) → Event
  -- its caller makes what all wait for come, and notifies all
  Tells : (party : ℕ) → Event

abbrev pub is_asleep : Party → Bool
is_asleep (Awake p m) = false
is_asleep (Asleep t at m) = true

-- the party after its park returns
abbrev pub risen : Party → Party
risen (Awake p m) = Awake p m
risen (Asleep t at m) = Awake (after_of (Missed t) 0) m

abbrev pub word_of : Word → World → ℕ
word_of word.Events w = w.events
word_of word.Sleepers w = w.sleepers

abbrev pub with_word : Word → ℕ → World → World
with_word word.Events n w = record w { events = n }
with_word word.Sleepers n w = record w { sleepers = n }

-- with another party at k
abbrev pub put : World → ℕ → Party → World
put w k p = record w { parties = slice_set w.parties k p }

-- the party at k goes on from its phase p, after a step that found n
abbrev pub goes_on : World → ℕ → Phase → ℕ → ℕ → World
goes_on w k p m n = put w k (Awake (after_of p n) m)

abbrev pub ticket_of : Phase → ℕ
ticket_of (Missed events) = events
ticket_of other = 0

-- a party sleeps on this ticket
abbrev pub counts_late : World → ℕ → World
counts_late w ticket = record w { late = w.late + (if w.events == ticket then 0 else 1) }

-- a wake of one wakes the sleeper that the event names. Where nobody sleeps it wakes nobody
abbrev pub wakes_one : World → ℕ → Phase → ℕ → ℕ → Option Party → World
wakes_one w k p m j (Some (Asleep t at mark)) = goes_on (put w j (risen (Asleep t at mark))) k p m 0
wakes_one w k p m j other = if count_by is_asleep w.parties == 0 then goes_on w k p m 0 else w

-- the party at k, at the phase p, takes this step
abbrev pub takes : World → ℕ → Phase → ℕ → ℕ → Step → World
takes w k p m j Rest = w
takes w k p m j (Load x) = goes_on w k p m (word_of x w)
takes w k p m j (Add x) = goes_on (with_word x (word_of x w + 1) w) k p m (word_of x w)
takes w k p m j (Take n) = goes_on (record w { sleepers = if w.sleepers == n then n - 1 else w.sleepers }) k p m 0
takes w k p m j Clear = goes_on (record w { sleepers = 0 }) k p m w.sleepers
takes w k p m j (Park n) = if low w.events == n then put (counts_late w (ticket_of p)) k (Asleep (ticket_of p) w.events m) else goes_on w k p m 0
takes w k p m j (Wake One) = wakes_one w k p m j (slice_get w.parties j)
takes w k p m j (Wake All) = goes_on (record w { parties = map risen w.parties }) k p m 0

abbrev pub looks : World → ℕ → Phase → Step → World
looks w k p Rest =
    if w.items == 0 then put w k (Awake (looked_of p false) w.times)
    else put (record w { items = w.items - 1 }) k (Awake (looked_of p true) w.times)
looks w k p other = w

abbrev pub leaves : World → ℕ → ℕ → Phase → World
leaves w k m (Prepared events) = put w k (Awake (looked_of (Prepared events) true) m)
leaves w k m other = w

abbrev pub prepares : World → ℕ → ℕ → Phase → World
prepares w k m Idle = put w k (Awake Starting m)
prepares w k m other = w

abbrev pub gives : World → ℕ → ℕ → Phase → World
gives w k m Idle = put (record w { items = w.items + 1 }) k (Awake Given m)
gives w k m other = w

abbrev pub tells : World → ℕ → ℕ → Phase → World
tells w k m Idle = put (record w { times = w.times + 1 }) k (Awake Clearing (w.times + 1))
tells w k m other = w

-- what a party that is awake makes of the world
abbrev pub acts : World → (Phase → ℕ → World) → Option Party → World
acts w f (Some (Awake p m)) = f p m
acts w f other = w

abbrev pub rises : World → ℕ → Option Party → World
rises w k (Some (Asleep t at m)) = put w k (risen (Asleep t at m))
rises w k other = w

-- what does not fit changes nothing
abbrev pub happens : World → Event → World
happens w (Steps k j) = acts w (λ p m. takes w k p m j (step_of p)) (slice_get w.parties k)
happens w (Rises k) = rises w k (slice_get w.parties k)
happens w (Prepares k) = acts w (λ p m. prepares w k m p) (slice_get w.parties k)
happens w (Looks k) = acts w (λ p m. looks w k p (step_of p)) (slice_get w.parties k)
happens w (Leaves k) = acts w (λ p m. leaves w k m p) (slice_get w.parties k)
happens w (Gives k) = acts w (λ p m. gives w k m p) (slice_get w.parties k)
happens w (Tells k) = acts w (λ p m. tells w k m p) (slice_get w.parties k)

abbrev pub run : List Event → World → World
run [] w = w
run (e ∷ es) w = run es (happens w e)
