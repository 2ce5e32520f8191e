-- Who waits for whom in a program.
use Rattle.std.specs.Prelude.{◌≡◌, ℕ, ◌-◌, ◌<◌, Bool, Some, List, length, map, slice_get}
use Rattle.std.specs.List.{All}
use Rattle.queue_steps.specs.declared.{model.Call.Call, steps.types.Kind.Kind}
use Rattle.machine_explore.specs.{Reports.IsShownWait, Waiting.HasNoOtherWait, Waiting.Waiting}
use Rattle.app_explore.specs.{Outcomes.AreInOrder, Schedules.MakeAll, Schedules.move_lines, Schedules.schedule_text, WaitLines.wait_text, WaitLines.waits_text}

-- these are the waits of the program, each of which a schedule shows, in the order of their texts, each once; and it has no other
pub record AreWaits (k : Kind) (refuses : Bool) (before : List (Call ℕ)) (calls : List (List (Call ℕ))) (waits : List Waiting) : Type 0 where
  pub no_other : HasNoOtherWait k refuses before calls waits
  pub shown : All (IsShownWait k refuses before calls) waits
  pub in_order : AreInOrder (map wait_text waits)

-- the text has a line for each wait of the program, and for no other, and how many there are
pub record IsWaitList (k : Kind) (refuses : Bool) (before : List (Call ℕ)) (calls : List (List (Call ℕ))) (text : List ℕ) : Type 0 where
  pub waits : List Waiting
  pub are : AreWaits k refuses before calls waits
  pub text_is : text ≡ waits_text waits

-- the text has the lines by which a replay makes a schedule that shows the program's wait of this number: line by line, they make its moves and no other
pub record IsWaitSchedule (k : Kind) (refuses : Bool) (before : List (Call ℕ)) (calls : List (List (Call ℕ))) (number : ℕ) (text : List ℕ) : Type 0 where
  pub waits : List Waiting
  pub are : AreWaits k refuses before calls waits
  pub wait : Waiting
  pub there : slice_get waits (number - 1) ≡ Some wait
  pub text_is : text ≡ schedule_text before wait.seen
  pub made : MakeAll (move_lines 0 wait.seen) wait.seen

-- the program has fewer waits than that
pub record HasFewerWaits (k : Kind) (refuses : Bool) (before : List (Call ℕ)) (calls : List (List (Call ℕ))) (number : ℕ) : Type 0 where
  pub waits : List Waiting
  pub are : AreWaits k refuses before calls waits
  pub fewer : length waits < number
