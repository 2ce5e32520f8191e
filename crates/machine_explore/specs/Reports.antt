-- What is shown of a program: all its outcomes, or all its waits.
use Rattle.std.specs.{Prelude.ℕ, Prelude.Bool, Prelude.List, Prelude.map, List.All}
use Rattle.queue_steps.specs.declared.{model.Call.Call, steps.types.Kind.Kind}
use Rattle.machine_explore.specs.{declared.schedule.Move.Move, declared.shown.ShownOutcome.ShownOutcome, Certified.IsOutcomeOf, Explored.HasNoOther, Positions.Outcome, Waiting.HasNoOtherWait, Waiting.IsWaitOf, Waiting.Waiting}

abbrev pub outcome_in : {A : Type 0} → ShownOutcome A → Outcome ℕ
outcome_in x = x.outcome

-- its schedule shows the outcome
abbrev pub IsShownOutcome : {A : Type 0} → Kind → Bool → List (Call ℕ) → List (List (Call ℕ)) → ShownOutcome A → Type 0
IsShownOutcome k refuses before calls x = IsOutcomeOf k refuses before calls x.schedule x.outcome

-- these are the outcomes of the program, each of which its schedule shows, and it has no other
pub record AreAllOutcomes {A : Type 0} (k : Kind) (refuses : Bool) (before : List (Call ℕ)) (calls : List (List (Call ℕ))) (outcomes : List (ShownOutcome A)) : Type 0 where
  pub no_other : HasNoOther k refuses before calls (map outcome_in outcomes)
  pub shown : All (IsShownOutcome k refuses before calls) outcomes

-- a schedule shows that the one waits for the other at its end
abbrev pub IsShownWait : Kind → Bool → List (Call ℕ) → List (List (Call ℕ)) → Waiting → Type 0
IsShownWait k refuses before calls x = (schedule : List Move) × IsWaitOf k refuses before calls schedule x

-- these are the waits of the program, each of which a schedule shows, and it has no other
pub record AreAllWaits (k : Kind) (refuses : Bool) (before : List (Call ℕ)) (calls : List (List (Call ℕ))) (waits : List Waiting) : Type 0 where
  pub no_other : HasNoOtherWait k refuses before calls waits
  pub shown : All (IsShownWait k refuses before calls) waits
