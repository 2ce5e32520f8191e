-- When a table of standings has all that the moves of a program lead to.
use Rattle.std.specs.Prelude.{◌≡◌, ℕ, ◌<◌, Bool, true, false, List, length, Contains, ⊤, MatchOption}
use Rattle.std.specs.List.{All}
use Rattle.queue_steps.specs.declared.{model.Call.Call, steps.types.Kind.Kind}
use Rattle.machine_memory.specs.declared.types.Event.{Event}
use Rattle.machine_explore.specs.{Moves.event_at, Moves.led, Positions.Configuration, Positions.IsFinal, Positions.Outcome, Positions.Standing, Positions.outcome_at, Starts.IsStart}

-- if the party goes on from there, the table has where that leads
abbrev pub StaysOnce : {S R T : Type 0} → (Configuration S R T → Event T → Configuration S R T) → List (List (Call T)) → List (Configuration S R T) → Configuration S R T → ℕ → Bool → Type 0
StaysOnce lead calls table s p granted = MatchOption (event_at calls s p granted) ⊤ (λ e. Contains table (lead s e))

-- however the party goes on from there, the table has where that leads
abbrev pub Stays : {S R T : Type 0} → (Configuration S R T → Event T → Configuration S R T) → Bool → List (List (Call T)) → List (Configuration S R T) → Configuration S R T → ℕ → Type 0
Stays lead refuses calls table s p = (granted : Bool) → (refuses ≡ false → granted ≡ true) → StaysOnce lead calls table s p granted

-- so it is for each party
abbrev pub StaysForAll : {S R T : Type 0} → (Configuration S R T → Event T → Configuration S R T) → Bool → List (List (Call T)) → List (Configuration S R T) → Configuration S R T → Type 0
StaysForAll lead refuses calls table s = (p : ℕ) → p < length calls → Stays lead refuses calls table s p

-- a standing of the table as it has to be: of this kind of queue and for so many parties, with all that it leads to in the table
pub record IsInside (k : Kind) (refuses : Bool) (calls : List (List (Call ℕ))) (table : List Standing) (s : Standing) : Type 0 where
  pub kind : s.kind ≡ k
  pub parties : length s.parties ≡ length calls
  pub calls_are : length s.world.calls ≡ length calls
  pub stays : StaysForAll (led s.kind) refuses calls table s

-- the table has where the runs of the program start, and all that its standings lead to
pub record IsClosed (k : Kind) (refuses : Bool) (before : List (Call ℕ)) (calls : List (List (Call ℕ))) (table : List Standing) : Type 0 where
  pub start : Standing
  pub starts : IsStart k before (length calls) start
  pub within : Contains table start
  pub inside : All (IsInside k refuses calls table) table

-- what the standing ends with, if it is an end, is among the outcomes
abbrev pub EndsAmong : List (List (Call ℕ)) → List (Outcome ℕ) → Standing → Type 0
EndsAmong calls outcomes s = IsFinal calls s → Contains outcomes (outcome_at s)
