-- What is told of a program.
use Rattle.std.specs.Prelude.{◌≡◌, ℕ, Option, None, Some, ◌+◌, ◌-◌, ◌<◌, Bool, List, [], ◌∷◌, ◌++◌, length, map, slice_get}
use Rattle.std.specs.List.{AllZip}
use Rattle.queue_steps.specs.declared.{model.Call.Call, steps.types.Kind.Kind}
use Rattle.app_text.specs.{Lines.lines_of, KindNames.queue_named, declared.faults.Fault.Fault as fault}
use Rattle.machine_explore.specs.{Certified.IsOutcomeOf, Explored.HasNoOther, Positions.Outcome, Traces.Course, Traces.IsTraceOf, declared.schedule.Move.Move}
use Rattle.app_explore.specs.{Lanes.lanes_text, Reads.IsReadAs, Reads.IsFirstWrong, Waits.HasFewerWaits, Waits.IsWaitList, Waits.IsWaitSchedule, Outcomes.AreInOrder, Outcomes.outcome_line, Outcomes.text_of, Tails.Tail, Tails.tail_line, Tails.last_text, Tails.without_order}
use Rattle.app_explore.specs.{Schedules.MakeAll, Schedules.move_lines, Schedules.schedule_text, declared.args.Request.Request, declared.args.Wanted.Wanted, declared.args.Wanted.Wanted as wanted, declared.faults.Stop.Stop, declared.faults.Stop.Stop as stop}

-- the lines of these outcomes, by their texts, of which the first has the number n, each with its tail
abbrev pub outcome_lines : ℕ → List (List ℕ) → List (List ℕ) → List ℕ
outcome_lines n (o ∷ os) (t ∷ ts) = outcome_line n o t ++ outcome_lines (n + 1) os ts
outcome_lines n _ _ = []

-- these are the outcomes of the program, each of which its schedule shows, in the order of their texts, each once; and it has no other
pub record AreOutcomes (k : Kind) (refuses : Bool) (before : List (Call ℕ)) (calls : List (List (Call ℕ))) (schedules : List (List Move)) (outcomes : List (Outcome ℕ)) : Type 0 where
  pub no_other : HasNoOther k refuses before calls outcomes
  pub shown : AllZip (IsOutcomeOf k refuses before calls) schedules outcomes
  pub in_order : AreInOrder (map text_of outcomes)

-- it is the list of outcomes with these texts: a line for each, and a last line, which counts them and those of no order
pub record IsListOf (texts : List (List ℕ)) (text : List ℕ) : Type 0 where
  pub tails : List Tail
  pub counted : length tails ≡ length texts
  pub total : Option ℕ
  pub alone : ℕ
  pub text_is : text ≡ outcome_lines 1 texts (map tail_line tails) ++ last_text (length texts) total alone (without_order tails)

-- the text has a line for each outcome of the program, and for no other, and a last line
pub record IsListing (k : Kind) (refuses : Bool) (before : List (Call ℕ)) (calls : List (List (Call ℕ))) (text : List ℕ) : Type 0 where
  pub schedules : List (List Move)
  pub outcomes : List (Outcome ℕ)
  pub are : AreOutcomes k refuses before calls schedules outcomes
  pub list : IsListOf (map text_of outcomes) text

-- this is seen of the schedule of the program's outcome of this number
pub record IsTraceOfOutcome (k : Kind) (refuses : Bool) (before : List (Call ℕ)) (calls : List (List (Call ℕ))) (number : ℕ) (c : Course) : Type 0 where
  pub schedules : List (List Move)
  pub outcomes : List (Outcome ℕ)
  pub are : AreOutcomes k refuses before calls schedules outcomes
  pub outcome : slice_get outcomes (number - 1) ≡ Some c.outcome
  pub schedule : List Move
  pub there : slice_get schedules (number - 1) ≡ Some schedule
  pub trace : IsTraceOf k refuses before calls schedule c

-- the text has the lines by which a replay makes the schedule of the program's outcome of this number: line by line, they make its moves and no other
pub record IsScheduleOf (k : Kind) (refuses : Bool) (before : List (Call ℕ)) (calls : List (List (Call ℕ))) (number : ℕ) (text : List ℕ) : Type 0 where
  pub course : Course
  pub trace : IsTraceOfOutcome k refuses before calls number course
  pub text_is : text ≡ schedule_text before course.seen
  pub made : MakeAll (move_lines 0 course.seen) course.seen

-- the text is the picture of that schedule
pub record IsPictureOf (k : Kind) (refuses : Bool) (before : List (Call ℕ)) (calls : List (List (Call ℕ))) (number : ℕ) (text : List ℕ) : Type 0 where
  pub course : Course
  pub trace : IsTraceOfOutcome k refuses before calls number course
  pub text_is : text ≡ lanes_text (length calls) course.opening course.seen

-- the program has fewer outcomes than that
pub record HasFewer (k : Kind) (refuses : Bool) (before : List (Call ℕ)) (calls : List (List (Call ℕ))) (number : ℕ) : Type 0 where
  pub schedules : List (List Move)
  pub outcomes : List (Outcome ℕ)
  pub are : AreOutcomes k refuses before calls schedules outcomes
  pub fewer : length outcomes < number

-- the text tells what is asked for
abbrev pub TellsWanted : Kind → Bool → List (Call ℕ) → List (List (Call ℕ)) → Wanted → List ℕ → Type 0
TellsWanted k refuses before calls wanted.Outcomes text = IsListing k refuses before calls text
TellsWanted k refuses before calls (wanted.Schedule n) text = IsScheduleOf k refuses before calls n text
TellsWanted k refuses before calls (wanted.Lanes n) text = IsPictureOf k refuses before calls n text
TellsWanted k refuses before calls wanted.Waits text = IsWaitList k refuses before calls text
TellsWanted k refuses before calls (wanted.Wait n) text = IsWaitSchedule k refuses before calls n text

-- the number of the outcome that is asked for, if one is
abbrev pub number_in : Wanted → Option ℕ
number_in wanted.Outcomes = None
number_in (wanted.Schedule n) = Some n
number_in (wanted.Lanes n) = Some n
number_in _ = None

-- the input names a program, and the text tells of it what is asked for
pub record IsTold (r : Request) (input text : List ℕ) : Type 0 where
  pub before : List (Call ℕ)
  pub calls : List (List (Call ℕ))
  pub read : IsReadAs (lines_of input) before calls
  pub tells : TellsWanted (queue_named r.kind) r.refuses before calls r.wanted text

-- why nothing of this is told of the program
abbrev pub MayTellNothing : Kind → Bool → List (Call ℕ) → List (List (Call ℕ)) → Wanted → Stop → Type 0
MayTellNothing k refuses before calls w (stop.Usage why) = ⊥
MayTellNothing k refuses before calls w (stop.Fault why) = why ≡ fault.NoMemory
MayTellNothing k refuses before calls w (stop.Line n why) = ⊥
MayTellNothing k refuses before calls w (stop.NoOutcome number) = (number_in w ≡ Some number) × HasFewer k refuses before calls number
MayTellNothing k refuses before calls w (stop.NoWait number) = (w ≡ wanted.Wait number) × HasFewerWaits k refuses before calls number
MayTellNothing k refuses before calls w _ = Unit {0}

-- the program that the input names has fewer outcomes than that
pub record HasFewerOutcomes (r : Request) (input : List ℕ) (number : ℕ) : Type 0 where
  pub before : List (Call ℕ)
  pub calls : List (List (Call ℕ))
  pub read : IsReadAs (lines_of input) before calls
  pub asked : number_in r.wanted ≡ Some number
  pub fewer : HasFewer (queue_named r.kind) r.refuses before calls number

-- the program that the input names has fewer waits than that
pub record HasFewerWaitsThan (r : Request) (input : List ℕ) (number : ℕ) : Type 0 where
  pub before : List (Call ℕ)
  pub calls : List (List (Call ℕ))
  pub read : IsReadAs (lines_of input) before calls
  pub asked : r.wanted ≡ wanted.Wait number
  pub fewer : HasFewerWaits (queue_named r.kind) r.refuses before calls number

-- why nothing is told of the program that the input names
abbrev pub MayStop : Request → List ℕ → Stop → Type 0
MayStop r input (stop.Usage why) = ⊥
MayStop r input (stop.Fault why) = why ≡ fault.NoMemory
MayStop r input (stop.Line n why) = IsFirstWrong (lines_of input) n
MayStop r input (stop.NoOutcome number) = HasFewerOutcomes r input number
MayStop r input (stop.NoWait number) = HasFewerWaitsThan r input number
MayStop r input _ = Unit {0}
