-- What holds in every run of a channel.
use Rattle.std.specs.Prelude.{◌≡◌, ◌⊎◌, ℕ, ◌+◌, ◌-◌, true, false, List, [], ◌∷◌, length, Option, Some, None}
use Rattle.queue_steps.specs.{State.State, Effect.IsHistory, Effect.after}
use Rattle.queue_laws.specs.Common.Vocabulary.{Effect}
use Rattle.event_count.specs.Sleep.Laws.{Sleeps, AreHeeded, AreRoused, IsTelling}
use Rattle.law_channel.specs.Machine.{Side, Channel, at_side, open_channel, Event, Acts, Runs, after_from}

-- a run of so many parties, from an open and empty queue of this capacity, leads here
pub record IsReached {T : Type 0} (c : Channel T) : Type 0 where
  pub cap : Option ℕ
  pub parties : ℕ
  pub events : List (Event T)
  pub runs : Runs (open_channel cap parties) events
  pub leads : c ≡ after_from (open_channel cap parties) events

-- the effects of a run, in their order
abbrev pub effects_of : {T : Type 0} → List (Event T) → List (Effect T)
effects_of [] = []
effects_of (Acts k e ∷ es) = e ∷ effects_of es
effects_of (other ∷ es) = effects_of es

-- the queue goes through one history, and is what that leaves
abbrev pub IsOneHistory : Type 0 → Type 0
IsOneHistory T = (cap : Option ℕ) (parties : ℕ) (es : List (Event T)) → Runs (open_channel cap parties) es
    → IsHistory cap (effects_of es) × ((after_from (open_channel cap parties) es).queue ≡ after cap (effects_of es))

-- each history of the queue is that of a run
abbrev pub EachHistoryRuns : Type 0 → Type 0
EachHistoryRuns T = (cap : Option ℕ) (effects : List (Effect T)) → IsHistory cap effects
    → (parties : ℕ) × (es : List (Event T)) × Runs (open_channel cap parties) es × (effects_of es ≡ effects)

-- an item on its way in counts
abbrev pub on_way : {T : Type 0} → Option T → ℕ
on_way None = 0
on_way (Some v) = 1

abbrev pub taken : {T : Type 0} → State T → ℕ
taken Q = length Q.items + on_way Q.coming

abbrev pub NoItemWaits : Type 0 → Type 0
NoItemWaits T = (c : Channel T) → IsReached c → c.items.late ≡ 0 → (k mark : ℕ) → Sleeps c.items k mark
    → AreHeeded (length c.queue.items) c.items ⊎ ((c.queue.closed ≡ true) × AreRoused c.items)

-- for each free place of the capacity
abbrev pub NoRoomWaits : Type 0 → Type 0
NoRoomWaits T = (c : Channel T) → IsReached c → c.room.late ≡ 0 → c.queue.closed ≡ false → (k mark : ℕ) → Sleeps c.room k mark
    → (capacity : ℕ) × (c.queue.cap ≡ Some capacity) × AreHeeded (capacity - taken c.queue) c.room

-- the first to notify all is the party that closed the queue
abbrev pub NoCloseIsSleptThrough : Type 0 → Type 0
NoCloseIsSleptThrough T = (c : Channel T) → IsReached c → c.queue.closed ≡ true → (side : Side) (k mark : ℕ) → Sleeps (at_side side c) k mark → IsTelling (at_side side c) 1
