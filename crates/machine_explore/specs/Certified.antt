-- When a schedule shows an outcome.
use Rattle.std.specs.Prelude.{◌≡◌, ◌≢◌, ℕ, Bool, List, length}
use Rattle.std.specs.List.{All, AllZip}
use Rattle.queue_steps.specs.declared.{model.Call.Call, steps.types.Kind.Kind}
use Rattle.machine_memory.specs.declared.types.{Event.Event, Event.TheVariants.Begin, Event.TheVariants.Step, Told.Told, Told.TheVariants.Skipped}
use Rattle.machine_steps.specs.Left.{opening_world}
use Rattle.machine_replay.specs.Played.{told_of, world_after}
use Rattle.machine_explore.specs.{declared.schedule.Move.Move, Explored.IsRunOf, Explored.outcome_of_run, Positions.Outcome}

-- the event is that of the move
abbrev pub IsMove : Move → Event ℕ → Type 0
IsMove m (Begin p c) = p ≡ m.party
IsMove m (Step p granted) = (p ≡ m.party) × (granted ≡ m.granted)

-- the event of which this is told took place
abbrev pub IsTaken : Told ℕ → Type 0
IsTaken t = t ≢ Skipped

-- by these moves, after the calls that come first, the program runs to this outcome. Each move takes place, none is skipped
pub record IsOutcomeOf (k : Kind) (refuses : Bool) (before : List (Call ℕ)) (calls : List (List (Call ℕ))) (schedule : List Move) (o : Outcome ℕ) : Type 0 where
  pub first : List (Event ℕ)
  pub rest : List (Event ℕ)
  pub run : IsRunOf k refuses before calls first rest
  pub moves : AllZip IsMove schedule rest
  pub taken : All IsTaken (told_of k (world_after k (opening_world k (length calls)) first) rest)
  pub outcome : o ≡ outcome_of_run k (length calls) first rest
