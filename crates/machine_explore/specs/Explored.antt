-- Which runs a program has, what each ends with, and when a list of outcomes has them all.
use Rattle.std.specs.Prelude.{◌≡◌, ℕ, ◌<◌, ◌==◌, Bool, true, false, if◌then◌else◌, None, List, [], ◌∷◌, ◌++◌, length, map, Contains}
use Rattle.std.specs.List.{All, range_with_len}
use Rattle.queue_steps.specs.declared.{model.Call.Call, model.Reply.Reply, steps.types.Kind.Kind}
use Rattle.machine_memory.specs.{declared.calls.Running.Running, declared.types.Event.Event, declared.types.Event.TheVariants.Begin, declared.types.Event.TheVariants.Step, declared.types.Told.Told, SharedMemory.MemoryState}
use Rattle.machine_replay.specs.{Conforms.party_of, Played.world_after, Played.told_of}
use Rattle.machine_steps.specs.{Left.left_of, Left.opening_world, World.World, World.call_at}
use Rattle.machine_explore.specs.{Moves.call_in, Moves.reply_in, Positions.Outcome, Positions.calls_of}

-- the calls that the party began, in their order: those whose beginning was not skipped
abbrev pub begun_by : {T : Type 0} → ℕ → List (Event T) → List (Told T) → List (Call T)
begun_by p (e ∷ es) (t ∷ ts) = (if party_of e == p then call_in e t else []) ++ begun_by p es ts
begun_by p _ _ = []

-- the replies that the party got, in their order
abbrev pub replies_by : {T : Type 0} → ℕ → List (Event T) → List (Told T) → List (Reply T)
replies_by p (e ∷ es) (t ∷ ts) = (if party_of e == p then reply_in t else []) ++ replies_by p es ts
replies_by p _ _ = []

-- the event refuses no request
abbrev pub IsGranted : {T : Type 0} → Event T → Type 0
IsGranted (Begin p c) = Unit {0}
IsGranted (Step p granted) = granted ≡ true

-- it is an event of party 0 that refuses no request
abbrev pub IsPreparing : {T : Type 0} → Event T → Type 0
IsPreparing e = (party_of e ≡ 0) × IsGranted e

-- by these events party 0, alone, makes these calls one after another, and is between calls then
pub record Prepares (k : Kind) (w : World (MemoryState ℕ) (Running ℕ)) (before : List (Call ℕ)) (events : List (Event ℕ)) : Type 0 where
  pub alone : All IsPreparing events
  pub begins : begun_by 0 events (told_of k w events) ≡ before
  pub rests : call_at (world_after k w events) 0 ≡ None

-- from w on, each party makes its calls in their order and gets a reply to each, whatever the order of their steps. Events that are skipped change nothing; requests are refused only where they may be
pub record Plays (k : Kind) (refuses : Bool) (calls : List (List (Call ℕ))) (w : World (MemoryState ℕ) (Running ℕ)) (events : List (Event ℕ)) : Type 0 where
  pub grants : refuses ≡ false → All IsGranted events
  pub begins : (p : ℕ) → p < length calls → begun_by p events (told_of k w events) ≡ calls_of calls p
  pub replies : (p : ℕ) → p < length calls → length (replies_by p events (told_of k w events)) ≡ length (calls_of calls p)

-- what these events end with, from w on
abbrev pub outcome_of : Kind → ℕ → World (MemoryState ℕ) (Running ℕ) → List (Event ℕ) → Outcome ℕ
outcome_of k parties w events = record { replies = map (λ p. replies_by p events (told_of k w events)) (range_with_len 0 parties); left = left_of k (world_after k w events) }

-- a whole run of the program: the calls that are made first, from the empty open queue, and then those of the parties
pub record IsRunOf (k : Kind) (refuses : Bool) (before : List (Call ℕ)) (calls : List (List (Call ℕ))) (first rest : List (Event ℕ)) : Type 0 where
  pub prepares : Prepares k (opening_world k (length calls)) before first
  pub plays : Plays k refuses calls (world_after k (opening_world k (length calls)) first) rest

-- what the run ends with
abbrev pub outcome_of_run : Kind → ℕ → List (Event ℕ) → List (Event ℕ) → Outcome ℕ
outcome_of_run k parties first rest = outcome_of k parties (world_after k (opening_world k parties) first) rest

-- whatever run the program has, its outcome is one of these
abbrev pub HasNoOther : Kind → Bool → List (Call ℕ) → List (List (Call ℕ)) → List (Outcome ℕ) → Type 0
HasNoOther k refuses before calls outcomes = (first rest : List (Event ℕ)) → IsRunOf k refuses before calls first rest → Contains outcomes (outcome_of_run k (length calls) first rest)
