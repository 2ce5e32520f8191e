-- Short runs of a channel of numbers, whose queue has one place. The first party waits, and the second wakes it.
use Rattle.std.specs.Prelude.{◌≡◌, ℕ, List, [], ◌∷◌, ◌++◌, Some}
use Rattle.queue_laws.specs.Common.Vocabulary.{Effect}
use Rattle.event_count.specs.declared.wakes.steps.{Phase.TheVariants.Idle, Phase.TheVariants.Returned, Phase.TheVariants.Given, Phase.TheVariants.Clearing, Phase.TheVariants.Waking, Whom.TheVariants.All}
use Rattle.event_count.specs.Sleep.World.{Party, Awake, Asleep}
use Rattle.law_channel.specs.Machine.{Side, Items, Room, open_channel, Event, Steps, Prepares, Fails, FindsClosed, Acts, Runs, after_from}

-- the first party takes a ticket
abbrev pub prepares : Side → List (Event ℕ)
prepares side = Prepares side 0 ∷ Steps side 0 0 ∷ Steps side 0 0 ∷ []

-- it tries in vain, and parks
abbrev pub sleeps : Side → List (Event ℕ)
sleeps side = prepares side ++ Fails side 0 ∷ Steps side 0 0 ∷ []

-- the second party ends a notify of one that found a sleeper; of all
abbrev pub wakes_one : Side → List (Event ℕ)
wakes_one side = Steps side 1 0 ∷ Steps side 1 0 ∷ Steps side 1 0 ∷ Steps side 1 0 ∷ []

abbrev pub wakes_all : Side → List (Event ℕ)
wakes_all side = Steps side 1 0 ∷ Steps side 1 0 ∷ Steps side 1 0 ∷ []

-- the first party sends a number, and its notify ends at its first step
abbrev pub sends : ℕ → List (Event ℕ)
sends n = Acts 0 (Effect.Append n) ∷ Steps Items 0 0 ∷ []

-- the run may happen, and the queue then holds these, and the two parties are there at each side
pub record Ends (es : List (Event ℕ)) (left : List ℕ) (receivers senders : List Party) : Type 0 where
  pub runs : Runs (open_channel (Some 1) 2) es
  pub queue : (after_from (open_channel (Some 1) 2) es).queue.items ≡ left
  pub items : (after_from (open_channel (Some 1) 2) es).items.parties ≡ receivers
  pub room : (after_from (open_channel (Some 1) 2) es).room.parties ≡ senders

pub record Examples : Type 0 where
  -- a sender finds no room, and sleeps; who takes the item wakes it, and it sends
  pub sender_sleeps : Ends (sends 10 ++ sleeps Room) (10 ∷ []) (Awake Idle 0 ∷ Awake Idle 0 ∷ []) (Asleep 0 0 0 ∷ Awake Idle 0 ∷ [])
  pub sender_is_woken : Ends (sends 10 ++ sleeps Room ++ Acts 1 (Effect.Take 10) ∷ wakes_one Room) [] (Awake Idle 0 ∷ Awake Idle 0 ∷ []) (Awake Returned 0 ∷ Awake Idle 0 ∷ [])
  pub sender_sends :
      Ends (sends 10 ++ sleeps Room ++ Acts 1 (Effect.Take 10) ∷ wakes_one Room ++ sends 11) (11 ∷ []) (Awake Idle 0 ∷ Awake Idle 0 ∷ []) (Awake Idle 0 ∷ Awake Idle 0 ∷ [])
  -- a receiver sleeps while there is an item, since the sender's notify has not ended; then it is woken, and takes the item
  pub receiver_sleeps : Ends (sleeps Items ++ Acts 1 (Effect.Append 10) ∷ []) (10 ∷ []) (Asleep 0 0 0 ∷ Awake Given 0 ∷ []) (Awake Idle 0 ∷ Awake Idle 0 ∷ [])
  pub receiver_takes :
      Ends (sleeps Items ++ Acts 1 (Effect.Append 10) ∷ wakes_one Items ++ Acts 0 (Effect.Take 10) ∷ []) [] (Awake Idle 0 ∷ Awake Idle 0 ∷ []) (Awake Given 0 ∷ Awake Idle 0 ∷ [])
  -- a receiver sleeps though the queue is closed, since the notify of all has not ended; then it is woken, and finds the queue closed
  pub closed_and_asleep :
      Ends (sleeps Items ++ Acts 1 Effect.Close ∷ Steps Items 1 0 ∷ Steps Items 1 0 ∷ []) [] (Asleep 0 0 0 ∷ Awake (Waking All) 1 ∷ []) (Awake Idle 0 ∷ Awake Clearing 1 ∷ [])
  pub receiver_ends :
      Ends (sleeps Items ++ Acts 1 Effect.Close ∷ wakes_all Items ++ wakes_all Room ++ FindsClosed Items 0 ∷ []) [] (Awake Idle 1 ∷ Awake Idle 1 ∷ []) (Awake Idle 0 ∷ Awake Idle 1 ∷ [])
  -- a sender that holds a ticket closes the queue
  pub closes_with_ticket : Ends (prepares Room ++ Acts 0 Effect.Close ∷ []) [] (Awake Clearing 1 ∷ Awake Idle 0 ∷ []) (Awake Clearing 1 ∷ Awake Idle 0 ∷ [])
