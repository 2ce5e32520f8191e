-- When a recorded history is legal: each call has its effects between its beginning and its end, and together they are one history of the queue, in which each reply is right.
use Rattle.std.specs.Prelude.{◌≡◌, ℕ, Bool, true, false, not, Option, Some, None, List, [], ◌∷◌, slice_get, slice_set, replicate, take, ◌<◌, ◌+◌, ◌++◌}
use Rattle.queue_steps.specs.{State.State, State.start, Effect.Fits, Effect.made, Replies.Allows, Replies.Tells}
use Rattle.queue_steps.specs.declared.model.{Call.Call, Reply.Reply, Effect.Effect, Effect.Effect as effect}
use Rattle.history_check.specs.declared.recorded.{Event.Event, Event.TheVariants.Begin, Event.TheVariants.End, Rules.Rules, Way.Way, Way.TheVariants.Waiting, Way.TheVariants.Halfway, Way.TheVariants.Answered, Move.Move, Move.Move as move}

-- the rules of this project's queue: a displacement takes two steps
abbrev pub in_steps : Option ℕ → Rules
in_steps cap = record { cap = cap; at_once = false }

-- the queue, how far the call is that each party is in, and whether a displacement is one step
pub record Stage : Type 0 where
  pub queue : State ℕ
  pub calls : List (Option Way)
  pub at_once : Bool

-- an empty open queue, and so many parties between calls
abbrev pub opening : Rules → ℕ → Stage
opening rules parties = record { queue = start rules.cap 0; calls = replicate parties None; at_once = rules.at_once }

-- party p is in a call that is so far
abbrev pub IsAt : Stage → ℕ → Way → Type 0
IsAt s p way = slice_get s.calls p ≡ Some (Some way)

-- the queue is then Q, and party p so far
abbrev pub moved : Stage → State ℕ → ℕ → Option Way → Stage
moved s Q p o = record s { queue = Q; calls = slice_set s.calls p o }

-- the event may be recorded at s: a call begins where its party is between calls, and ends with the reply that it has
abbrev pub MayRecord : Stage → Event → Type 0
MayRecord s (Begin p c) = slice_get s.calls p ≡ Some None
MayRecord s (End p r) = IsAt s p (Answered r)

-- the stage after it
abbrev pub recorded : Stage → Event → Stage
recorded s (Begin p c) = moved s s.queue p (Some (Waiting c (not s.queue.closed)))
recorded s (End p r) = moved s s.queue p None

-- between two events, the call of a party leads from s to t
abbrev pub Makes : Stage → Move → Stage → Type 0
Makes s move.Event t = ⊥
Makes s (move.See p r) t = (c : Call ℕ) × (b : Bool) × IsAt s p (Waiting c b) × Allows c r s.queue × (t ≡ moved s s.queue p (Some (Answered r)))
Makes s (move.Act p r) t = (c : Call ℕ) × (b : Bool) × (e : Effect ℕ) × IsAt s p (Waiting c b) × Tells c r (e ∷ []) × Fits e s.queue × (t ≡ moved s (made e s.queue) p (Some (Answered r)))
Makes s (move.Part p r) t = (c : Call ℕ) × (old v : ℕ) × IsAt s p (Waiting c true) × Tells c r (effect.Front old v ∷ effect.Arrive ∷ []) × Fits (effect.Front old v) s.queue × (s.at_once ≡ false) × (t ≡ moved s (made (effect.Front old v) s.queue) p (Some (Halfway r)))
Makes s (move.Arrive p) t = (r : Reply ℕ) × IsAt s p (Halfway r) × Fits effect.Arrive s.queue × (s.at_once ≡ false) × (t ≡ moved s (made effect.Arrive s.queue) p (Some (Answered r)))
Makes s (move.Displace p r) t = (c : Call ℕ) × (b : Bool) × (old v : ℕ) × IsAt s p (Waiting c b) × Tells c r (effect.Front old v ∷ effect.Arrive ∷ []) × Fits (effect.Front old v) s.queue × (s.queue.closed ≡ false) × (s.at_once ≡ true) × (t ≡ moved s (made effect.Arrive (made (effect.Front old v) s.queue)) p (Some (Answered r)))

-- the next move leads from s, with the events es to come, to t, with the events fs to come
abbrev pub Takes : Stage → Move → List Event → Stage → List Event → Type 0
Takes s move.Event (e ∷ es) t fs = MayRecord s e × (t ≡ recorded s e) × (fs ≡ es)
Takes s move.Event [] t fs = ⊥
Takes s m es t fs = Makes s m t × (fs ≡ es)

-- by these moves all events are taken, from s on
abbrev pub Goes : Stage → List Event → List Move → Type 0
Goes s es [] = es ≡ []
Goes s es (m ∷ ms) = (t : Stage) × (fs : List Event) × Takes s m es t fs × Goes t fs ms

-- these moves are an order of the effects of the calls
abbrev pub IsOrder : Rules → ℕ → List Event → List Move → Type 0
IsOrder rules parties events moves = Goes (opening rules parties) events moves

-- there is an order of the effects of the calls
abbrev pub IsLegal : Rules → ℕ → List Event → Type 0
IsLegal rules parties events = (moves : List Move) × IsOrder rules parties events moves

-- the first n events are the shortest beginning that is not legal
abbrev pub IsShortest : Rules → ℕ → List Event → ℕ → Type 0
IsShortest rules parties events n = ¬ (IsLegal rules parties (take n events)) × ((m : ℕ) → m < n → IsLegal rules parties (take m events))

-- each beginning of a legal history is legal
abbrev pub BeginningsAreLegal : Type 0
BeginningsAreLegal = (rules : Rules) (parties : ℕ) (es fs : List Event) → IsLegal rules parties (es ++ fs) → IsLegal rules parties es

-- where the first n events are legal and one more is not, these are the shortest beginning that is not
abbrev pub ShortestIsNext : Type 0
ShortestIsNext = (rules : Rules) (parties : ℕ) (events : List Event) (n : ℕ) → IsLegal rules parties (take n events) → ¬ (IsLegal rules parties (take (n + 1) events)) → IsShortest rules parties events (n + 1)
