-- What is seen of a run of a program: of each event where its call stood, what was told, and the list behind it.
use Rattle.std.specs.Prelude.{◌≡◌, ℕ, ◌<◌, Bool, true, false, Option, Some, List, [], ◌∷◌, ◌++◌, length, take}
use Rattle.std.specs.List.{All, AllZip}
use Rattle.queue_steps.specs.declared.{model.Call.Call, steps.types.Kind.Kind, steps.types.Local.Local}
use Rattle.machine_memory.specs.{declared.calls.Running.Running, declared.types.Event.Event, declared.types.Told.Told, SharedMemory.MemoryState}
use Rattle.machine_replay.specs.{Conforms.party_of, Played.local_in, Played.told_of, Played.world_after}
use Rattle.machine_steps.specs.{Left.left_of, Left.opening_world, Machine.event_of, World.World, World.call_at}
use Rattle.machine_explore.specs.{declared.schedule.Move.Move, Starts.IsStart, Moves.event_at, Moves.led, Explored.IsGranted, Explored.begun_by, Explored.replies_by, Certified.IsMove, Certified.IsOutcomeOf, Certified.IsTaken}
use Rattle.machine_explore.specs.Positions.{Outcome, Standing, calls_of, progress_of}

-- an event, where the party's call stood before it, what was told of it, and the list behind it
pub record Seen : Type 0 where
  pub event : Event ℕ
  pub local : Option (Local ℕ)
  pub told : Told ℕ
  pub list : List ℕ

-- what is seen of the event, from w on
abbrev pub seen_at : Kind → World (MemoryState ℕ) (Running ℕ) → Event ℕ → Seen
seen_at k w e = record { event = e; local = local_in (call_at w (party_of e)); told = (event_of k true w e).1; list = left_of k (event_of k true w e).0 }

-- by this move the program goes on from s to the later standing, and this is seen of it
pub record IsSeen (calls : List (List (Call ℕ))) (s : Standing) (m : Move) (x : Seen) (later : Standing) : Type 0 where
  pub event : event_at calls s m.party m.granted ≡ Some x.event
  pub seen : x ≡ seen_at s.kind s.world x.event
  pub leads : later ≡ led s.kind s x.event

-- the move may be taken from s, it leads to the later standing, and what is seen of it stands behind what was seen before
pub record IsOneMore (refuses : Bool) (calls : List (List (Call ℕ))) (m : Move) (seen : List Seen) (s : Standing) (seen_later : List Seen) (later : Standing) : Type 0 where
  pub may : refuses ≡ false → m.granted ≡ true
  pub one : Seen
  pub seen_is : seen_later ≡ seen ++ one ∷ []
  pub is : IsSeen calls s m one later

-- what is seen of events, one after another, from w on
abbrev pub trace_of : Kind → World (MemoryState ℕ) (Running ℕ) → List (Event ℕ) → List Seen
trace_of k w [] = []
trace_of k w (e ∷ es) = seen_at k w e ∷ trace_of k (event_of k true w e).0 es

-- what is seen of a whole run: the list behind the calls that come first, each event behind them, and what the run ends with
pub record Course : Type 0 where
  pub opening : List ℕ
  pub seen : List Seen
  pub outcome : Outcome ℕ

-- by these moves, behind the calls that come first, the program runs to this outcome, and this is seen of it
pub record IsTraceOf (k : Kind) (refuses : Bool) (before : List (Call ℕ)) (calls : List (List (Call ℕ))) (schedule : List Move) (c : Course) : Type 0 where
  pub of : IsOutcomeOf k refuses before calls schedule c.outcome
  pub opening : c.opening ≡ left_of k (world_after k (opening_world k (length calls)) of.first)
  pub seen : c.seen ≡ trace_of k (world_after k (opening_world k (length calls)) of.first) of.rest

-- the program has come there from w by these events, which are those of the moves, and of which this was seen
pub record IsUnderWay (k : Kind) (refuses : Bool) (calls : List (List (Call ℕ))) (w : World (MemoryState ℕ) (Running ℕ)) (schedule : List Move) (seen : List Seen) (s : Standing) : Type 0 where
  pub rest : List (Event ℕ)
  pub moves : AllZip IsMove schedule rest
  pub grants : refuses ≡ false → All IsGranted rest
  pub taken : All IsTaken (told_of k w rest)
  pub calls_are : length s.world.calls ≡ length calls
  pub seen_are : seen ≡ trace_of k w rest
  pub kind : s.kind ≡ k
  pub world : s.world ≡ world_after k w rest
  pub parties : length s.parties ≡ length calls
  pub begins : (p : ℕ) → p < length calls → begun_by p rest (told_of k w rest) ≡ take (progress_of s p).begun (calls_of calls p)
  pub counts : (p : ℕ) → p < length calls → length (begun_by p rest (told_of k w rest)) ≡ (progress_of s p).begun
  pub replies : (p : ℕ) → p < length calls → replies_by p rest (told_of k w rest) ≡ (progress_of s p).replies

-- by these moves, after the calls that come first, the program comes there, and this is seen of it; the list before the first move is the opening
pub record IsWayOf (k : Kind) (refuses : Bool) (before : List (Call ℕ)) (calls : List (List (Call ℕ))) (schedule : List Move) (opening : List ℕ) (seen : List Seen) (s : Standing) : Type 0 where
  pub start : Standing
  pub starts : IsStart k before (length calls) start
  pub opens : opening ≡ left_of k start.world
  pub on : IsUnderWay k refuses calls start.world schedule seen s
