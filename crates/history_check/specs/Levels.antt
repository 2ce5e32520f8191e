-- How a history is shown not to be legal: from event to event, all stages that an order can be at, until there are none.
use Rattle.std.specs.Prelude.{◌≡◌, ℕ, Bool, true, Option, Some, None, List, [], ◌∷◌, ◌++◌, Contains, slice_get, length, ◌≤◌, ◌⊎◌, nat_eq, if◌then◌else◌}
use Rattle.queue_steps.specs.{State.State, Effect.Fits, Replies.Tells, declared.model.Call.Call, declared.model.Reply.Reply, declared.model.Effect.Effect, declared.model.Effect.Effect as effect}
use Rattle.history_check.specs.declared.recorded.{Event.Event, Event.TheVariants.Begin, Event.TheVariants.End, Move.Move, Move.Move as move, Rules.Rules, Way.TheVariants.Waiting}
use Rattle.history_check.specs.declared.ahead.Ahead.{Ahead}
use Rattle.history_check.specs.Legal.{Stage, opening, IsAt, MayRecord, recorded, Makes, Goes, IsLegal}

-- the reply by which the party's next end is recorded
abbrev pub next_reply : ℕ → List Event → Option (Reply ℕ)
next_reply p [] = None
next_reply p (Begin q c ∷ es) = next_reply p es
next_reply p (End q r ∷ es) = if nat_eq p q then Some r else next_reply p es

-- what is noted of each party is the reply of its next end
abbrev pub Expects : List (Option (Reply ℕ)) → List Event → Type 0
Expects replies es = (p : ℕ) (o : Option (Reply ℕ)) → slice_get replies p ≡ Some o → o ≡ next_reply p es

-- the reply is the expected one, where one is expected
abbrev pub IsExpected : Option (Reply ℕ) → Reply ℕ → Type 0
IsExpected None r = Unit {0}
IsExpected (Some x) r = x ≡ r

-- the call may have an effect at this state, its only one or the first of two, and get this reply
abbrev pub Acts : Call ℕ → Reply ℕ → State ℕ → Type 0
Acts c r Q =
    ((e : Effect ℕ) × Tells c r (e ∷ []) × Fits e Q)
    ⊎ ((old v : ℕ) × Tells c r (effect.Front old v ∷ effect.Arrive ∷ []) × Fits (effect.Front old v) Q)

-- what is known of the events to come is right
abbrev pub Foresees : {A : Type 0} → Ahead A → List Event → Type 0
Foresees ahead es = Expects ahead.replies.items es

-- the call, answered so, can have no effect at this state, nor later
abbrev pub HasNoEffect : Call ℕ → Reply ℕ → State ℕ → Type 0
HasNoEffect c r Q =
    ((e : Effect ℕ) → Tells c r (e ∷ []) → (e ≡ effect.SelfClose) × (Q.closed ≡ true))
    × ((old v : ℕ) → Tells c r (effect.Front old v ∷ effect.Arrive ∷ []) → ⊥)

-- the party's call, if it waits and is answered so, can only see its reply
abbrev pub OnlySees : Stage → ℕ → Reply ℕ → Type 0
OnlySees s p r = (c : Call ℕ) (b : Bool) → IsAt s p (Waiting c b) → HasNoEffect c r s.queue

-- whoever takes these events from s on, takes them from t on by no more moves
abbrev pub IsAsGood : List Event → Stage → Stage → Type 0
IsAsGood es s t = (ms : List Move) → Goes s es ms → (ns : List Move) × Goes t es ns × (length ns ≤ length ms)

-- whoever takes these events from s on, takes them from a stage of the level on by no more moves
abbrev pub Keeps : List Stage → List Event → Stage → Type 0
Keeps level es s = (ms : List Move) → Goes s es ms → (t : Stage) × (ns : List Move) × Contains level t × Goes t es ns × (length ns ≤ length ms)

-- the level keeps each stage to which this move leads from s
abbrev pub Has : List Stage → List Event → Stage → Move → Type 0
Has level es s m = (t : Stage) → Makes s m t → Keeps level es t

-- the level keeps each stage to which the party's call leads from s, if this is the reply of its next end. A call that does not end need not see its reply
pub record HasAll (level : List Stage) (es : List Event) (s : Stage) (p : ℕ) (o : Option (Reply ℕ)) : Type 0 where
  pub see : (r : Reply ℕ) → o ≡ Some r → Has level es s (move.See p r)
  pub act : (r : Reply ℕ) → IsExpected o r → Has level es s (move.Act p r)
  pub part : (r : Reply ℕ) → IsExpected o r → Has level es s (move.Part p r)
  pub arrive : Has level es s (move.Arrive p)
  pub displace : (r : Reply ℕ) → IsExpected o r → Has level es s (move.Displace p r)

-- the level keeps each stage to which a call leads from s, if these are the replies of the parties' next ends
abbrev pub HasEach : List Stage → List Event → Stage → List (Option (Reply ℕ)) → Type 0
HasEach level es s replies = (length s.calls ≤ length replies) × ((p : ℕ) (o : Option (Reply ℕ)) → slice_get replies p ≡ Some o → HasAll level es s p o)

-- at a stage that is as good as s the event is recorded, into the next level; or it cannot be, and the level keeps each stage to which a call leads from there
abbrev pub Handles : List Stage → List Stage → Event → List Event → List (Option (Reply ℕ)) → Stage → Type 0
Handles level next e es replies s = (t : Stage) × IsAsGood (e ∷ es) s t × ((MayRecord t e × Keeps next es (recorded t e)) ⊎ (¬ (MayRecord t e) × HasEach level (e ∷ es) t replies))

-- the second list begins with the first
abbrev pub Extends : List Stage → List Stage → Type 0
Extends old new = (more : List Stage) × (new ≡ old ++ more)

-- by some moves all these events are taken from a stage of the level on
abbrev pub Survives : List Stage → List Event → Type 0
Survives level es = (s : Stage) × (moves : List Move) × Contains level s × Goes s es moves

-- who survives from the one level, with this event to come and then these, survives from the next one after it
abbrev pub Passes : List Stage → Event → List Event → List (Option (Reply ℕ)) → List Stage → Type 0
Passes level e es replies next = Expects replies (e ∷ es) → Survives level (e ∷ es) → Survives next es

-- a level of which each stage is handled passes the event
abbrev pub LevelsPass : Type 0
LevelsPass = (level next : List Stage) (e : Event) (es : List Event) (replies : List (Option (Reply ℕ))) → ((s : Stage) → Contains level s → Handles level next e es replies s) → Passes level e es replies next

-- where an event may be recorded at once, the moves before it may wait: the rest is taken from the stage after the event
abbrev pub MovesMayWait : Type 0
MovesMayWait = (s : Stage) (e : Event) (es : List Event) (ms : List Move) → MayRecord s e → Goes s (e ∷ es) ms → (ns : List Move) × Goes (recorded s e) es ns

-- from this level on, each made longer where calls lead on, levels pass the events until one is empty
abbrev pub Dies : List Stage → List Event → Type 0
Dies level [] = level ≡ []
Dies level (e ∷ es) =
    (level ≡ [])
    ⊎ ((replies : List (Option (Reply ℕ))) × (longer next : List Stage) × Extends level longer × Expects replies (e ∷ es) × ((s : Stage) → Contains longer s → Handles longer next e es replies s) × Dies next es)

-- a history whose levels die is not legal
abbrev pub LevelsRefute : Type 0
LevelsRefute = (rules : Rules) (parties : ℕ) (es : List Event) (level : List Stage) → Contains level (opening rules parties) → Dies level es → ¬ (IsLegal rules parties es)
