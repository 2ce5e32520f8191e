-- A channel: the queue, two eventcounts, and any number of parties over them; and what one event makes of it.
use Rattle.std.specs.Prelude.{◌≡◌, ℕ, Bool, true, false, List, [], ◌∷◌, Option, Some, None, Err, slice_get}
use Rattle.queue_steps.specs.{State.State, State.start, Effect.Fits, Effect.made, Replies.IsRightAt}
use Rattle.queue_laws.specs.Common.Vocabulary.{Call, Reply, Effect, PopError, PushError}
use Rattle.event_count.specs.{declared.wakes.steps.Phase.TheVariants.Idle, declared.wakes.steps.Phase.TheVariants.Prepared, declared.wakes.steps.Phase.TheVariants.Returned, Sleep.World.Party, Sleep.World.Awake, Sleep.World.World, Sleep.World.run}
use Rattle.event_count.specs.Sleep.World as wakes

-- what is waited for
pub data Side : Type 0 where
  -- receivers wait for items
  Items : Side
  -- senders wait for room
  Room : Side

-- the party at k of one eventcount is that at k of the other. What senders wait for, the items of their eventcount, are free places
pub record Channel (T : Type 0) : Type 0 where
  pub queue : State T
  pub items : World
  pub room : World

abbrev pub at_side : {T : Type 0} → Side → Channel T → World
at_side Items c = c.items
at_side Room c = c.room

-- how much room an empty queue has, where it has a capacity
abbrev pub places : Option ℕ → ℕ
places None = 0
places (Some capacity) = capacity

-- an open and empty queue, and so many parties, each between two calls
abbrev pub open_channel : {T : Type 0} → Option ℕ → ℕ → Channel T
open_channel cap parties = record { queue = start cap 0; items = wakes.start parties 0; room = wakes.start parties (places cap) }

-- what may happen next
pub data Event (T : Type 0) : Type 0 where
  -- the party takes its next step at this side. If that is a wake of one, it wakes this sleeper
  Steps : (side : Side) (party sleeper : ℕ) → Event T
  -- its park returns for no reason
  Rises : (side : Side) (party : ℕ) → Event T
  -- it begins to prepare
  Prepares : (side : Side) (party : ℕ) → Event T
  -- it gives its ticket up
  Leaves : (side : Side) (party : ℕ) → Event T
  -- it tries, and does not find what it waits for: its pop finds no item, or its push no room. If it holds a ticket it goes to sleep
  Fails : (side : Side) (party : ℕ) → Event T
  -- it tries, and finds the queue closed
  FindsClosed : (side : Side) (party : ℕ) → Event T
  -- its call has this effect on the queue, and owes the notifies of that
  Acts : (party : ℕ) (effect : Effect T) → Event T
  -- it has found the queue closed, or closed it once more, and notifies all
  TellsAgain : (party : ℕ) → Event T

-- it is between two calls, or holds a ticket
abbrev pub is_free : Party → Bool
is_free (Awake Idle m) = true
is_free (Awake (Prepared t) m) = true
is_free other = false

-- it may try: it is free, or it has waited
abbrev pub may_try : Party → Bool
may_try (Awake Idle m) = true
may_try (Awake (Prepared t) m) = true
may_try (Awake Returned m) = true
may_try other = false

-- the party at k is such
abbrev pub IsAt : (Party → Bool) → World → ℕ → Type 0
IsAt f w k = (p : Party) × (slice_get w.parties k ≡ Some p) × (f p ≡ true)

-- a party acts when it is between its steps at both sides. One that has waited tries for what it waited for, before all else
abbrev pub MayAct : {T : Type 0} → Channel T → ℕ → Effect T → Type 0
MayAct c k (Effect.Append v) = IsAt is_free c.items k × IsAt may_try c.room k
MayAct c k (Effect.Take v) = IsAt may_try c.items k × IsAt is_free c.room k
MayAct c k (Effect.Replace old v) = IsAt may_try c.items k × IsAt is_free c.room k
MayAct c k (Effect.Front old v) = IsAt may_try c.items k × IsAt is_free c.room k
MayAct c k other = IsAt is_free c.items k × IsAt is_free c.room k

-- a pop may be answered that the queue is empty; a push, that it is full
abbrev pub IsLacking : {T : Type 0} → Side → State T → Type 0
IsLacking Items Q = IsRightAt Q Call.Pop (Reply.Pop (Err PopError.Empty))
IsLacking {T} Room Q = (v : T) × IsRightAt Q (Call.Push v) (Reply.Push (Err (PushError.Full v)))

-- a pop, or a push, may be answered that the queue is closed
abbrev pub IsEnded : {T : Type 0} → Side → State T → Type 0
IsEnded Items Q = IsRightAt Q Call.Pop (Reply.Pop (Err PopError.Closed))
IsEnded {T} Room Q = (v : T) × IsRightAt Q (Call.Push v) (Reply.Push (Err (PushError.Closed v)))

-- the event may happen
abbrev pub MayHappen : {T : Type 0} → Channel T → Event T → Type 0
MayHappen c (Fails side k) = IsLacking side c.queue
MayHappen c (FindsClosed side k) = IsEnded side c.queue
MayHappen c (Acts k e) = Fits e c.queue × MayAct c k e
MayHappen c (TellsAgain k) = (c.queue.closed ≡ true) × IsAt is_free c.items k × IsAt is_free c.room k
MayHappen c other = Unit {0}

-- what an effect is to the eventcount of receivers: it takes an item, gives one, or tells all. Who holds a ticket gives it up
abbrev pub acts_on_items : {T : Type 0} → ℕ → Effect T → List wakes.Event
acts_on_items k (Effect.Append v) = wakes.Leaves k ∷ wakes.Gives k ∷ []
acts_on_items k (Effect.Take v) = wakes.Looks k ∷ []
acts_on_items k (Effect.Replace old v) = wakes.Looks k ∷ wakes.Gives k ∷ []
acts_on_items k (Effect.Front old v) = wakes.Looks k ∷ []
acts_on_items k Effect.Arrive = wakes.Leaves k ∷ wakes.Gives k ∷ []
acts_on_items k Effect.Close = wakes.Leaves k ∷ wakes.Tells k ∷ []
acts_on_items k Effect.SelfClose = wakes.Leaves k ∷ wakes.Tells k ∷ []

-- an append takes a place, where the queue has a capacity
abbrev pub takes_place : Option ℕ → ℕ → List wakes.Event
takes_place None k = wakes.Leaves k ∷ []
takes_place (Some capacity) k = wakes.Looks k ∷ []

-- what it is to the eventcount of senders. Where the queue has no capacity nobody waits there, and a notify of one wakes nobody
abbrev pub acts_on_room : {T : Type 0} → Option ℕ → ℕ → Effect T → List wakes.Event
acts_on_room cap k (Effect.Append v) = takes_place cap k
acts_on_room cap k (Effect.Take v) = wakes.Leaves k ∷ wakes.Gives k ∷ []
acts_on_room cap k (Effect.Replace old v) = wakes.Leaves k ∷ []
acts_on_room cap k (Effect.Front old v) = wakes.Leaves k ∷ []
acts_on_room cap k Effect.Arrive = wakes.Leaves k ∷ []
acts_on_room cap k Effect.Close = wakes.Leaves k ∷ wakes.Tells k ∷ []
acts_on_room cap k Effect.SelfClose = wakes.Leaves k ∷ wakes.Tells k ∷ []

abbrev pub acts_on : {T : Type 0} → Side → Option ℕ → ℕ → Effect T → List wakes.Event
acts_on Items cap k e = acts_on_items k e
acts_on Room cap k e = acts_on_room cap k e

-- what happens at one side does not happen at the other
abbrev pub only : Side → Side → List wakes.Event → List wakes.Event
only Items Items es = es
only Room Room es = es
only at other es = []

-- what an event is to the eventcount of a side. Who finds the queue closed looks without a ticket, so that it has looked if it was woken. At the side of senders it may seem to take a place,
-- which is no matter: no law speaks of places once the queue is closed
abbrev pub seen_at : {T : Type 0} → Side → Option ℕ → Event T → List wakes.Event
seen_at at cap (Steps side k j) = only at side (wakes.Steps k j ∷ [])
seen_at at cap (Rises side k) = only at side (wakes.Rises k ∷ [])
seen_at at cap (Prepares side k) = only at side (wakes.Prepares k ∷ [])
seen_at at cap (Leaves side k) = only at side (wakes.Leaves k ∷ [])
seen_at at cap (Fails side k) = only at side (wakes.Looks k ∷ [])
seen_at at cap (FindsClosed side k) = only at side (wakes.Leaves k ∷ wakes.Looks k ∷ [])
seen_at at cap (Acts k e) = acts_on at cap k e
seen_at at cap (TellsAgain k) = wakes.Leaves k ∷ wakes.Tells k ∷ []

-- what it makes of the queue
abbrev pub queue_after : {T : Type 0} → State T → Event T → State T
queue_after Q (Acts k e) = made e Q
queue_after Q other = Q

abbrev pub happens : {T : Type 0} → Channel T → Event T → Channel T
happens c e = record { queue = queue_after c.queue e; items = run (seen_at Items c.queue.cap e) c.items; room = run (seen_at Room c.queue.cap e) c.room }

-- each event of the list may happen where it does
abbrev pub Runs : {T : Type 0} → Channel T → List (Event T) → Type 0
Runs c [] = Unit {0}
Runs c (e ∷ es) = MayHappen c e × Runs (happens c e) es

abbrev pub after_from : {T : Type 0} → Channel T → List (Event T) → Channel T
after_from c [] = c
after_from c (e ∷ es) = after_from (happens c e) es
