-- How the checker may end.
use Rattle.std.specs.Prelude.{◌≡◌, ◌⊎◌, ℕ, List, [], ◌∷◌, Option, Result, String}
use Rattle.std.specs.{Io.KnownBytes.Appends, Io.KnownBytes.Keeps, declared.io.Error.Error, declared.vec.IntoIter.IntoIter}
use Rattle.app_text.specs.{Given.IsAskedBy, Given.MayLackMemory, Streams.IsBegun, Streams.IsInput, declared.faults.Fault.Fault as fault}
use Rattle.history_check.specs.declared.recorded.{Event.Event, Rules.Rules}
use Rattle.app_check.specs.{Histories.IsRecording, Histories.IsUnread, Answers.IsAnswer, Answers.answer_status, Answers.stop_status, Asked.IsAsked, Asked.asked_text, Asked.rules_of}
use Rattle.app_check.specs.declared.{answers.Answer.Answer, asked.Asked.Asked, faults.Stop.Stop, faults.Stop.Stop as stop}

-- the arguments that ask for a queue
abbrev pub asked_words : Asked → List (List ℕ)
asked_words a = asked_text a ∷ []

-- the arguments ask for this queue
abbrev pub Name : List (List ℕ) → Asked → Type 0
Name words a = IsAsked a × (asked_words a ≡ words)

abbrev pub NameNone : List (List ℕ) → Type 0
NameNone words = (a : Asked) → Name words a → ⊥

abbrev pub NameOne : List (List ℕ) → Type 0
NameOne words = (a : Asked) × Name words a

-- the text is a history
pub record IsHistory (text : List ℕ) : Type 0 where
  pub parties : ℕ
  pub events : List Event
  pub recording : IsRecording text parties events

-- the answer, with this output, is right for the history that the text is, by these rules
pub record IsAnswerTo (rules : Rules) (text : List ℕ) (answer : Answer) (output : List ℕ) : Type 0 where
  pub parties : ℕ
  pub events : List Event
  pub recording : IsRecording text parties events
  pub right : IsAnswer rules parties events answer output

-- why nothing was told of the text: it is no history that is read, or its history was not decided
abbrev pub IsUntold : List ℕ → Stop → Type 0
IsUntold text stop.TooManyStages = IsHistory text
IsUntold text why = IsUnread text why

-- the same for the history that the input is, on the queue that the arguments ask for
pub record IsToldOf (words : List (List ℕ)) (known : Option (List ℕ)) (answer : Answer) (output : List ℕ) : Type 0 where
  pub asked : Asked
  pub named : Name words asked
  pub bytes : List ℕ
  pub input : IsInput known bytes
  pub right : IsAnswerTo (rules_of asked) bytes answer output

-- the answer is right, and was written
abbrev pub IsChecked : List (List ℕ) → Option (List ℕ) → Option (List ℕ) → Option (List ℕ) → Answer → Type 0
IsChecked words known old new answer = (output : List ℕ) × IsToldOf words known answer output × Appends old new output

-- the input was read, and this is why nothing was told of it
abbrev pub IsRefused : Option (List ℕ) → Stop → Type 0
IsRefused known why = (bytes : List ℕ) × IsInput known bytes × IsUntold bytes why

-- why nothing was told. But for a failed write, nothing is written then
abbrev pub IsStopOf : List (List ℕ) → Option (List ℕ) → Option (List ℕ) → Option (List ℕ) → Stop → Type 0
IsStopOf words known old new stop.Usage = Keeps old new × NameNone words
IsStopOf words known old new (stop.Fault fault.Usage) = ⊥
IsStopOf words known old new (stop.Fault fault.NoMemory) = Keeps old new × NameOne words
IsStopOf words known old new (stop.Fault fault.InputFailed) = Keeps old new × NameOne words
IsStopOf words known old new (stop.Fault fault.OutputFailed) = (answer : Answer) × (output : List ℕ) × IsToldOf words known answer output × IsBegun old new output
IsStopOf words known old new why = Keeps old new × NameOne words × IsRefused known why

-- it ends with the status of an answer that was written, or with that of why none was
abbrev pub IsCheckerEnd : List (List ℕ) → Option (List ℕ) → Option (List ℕ) → Option (List ℕ) → ℕ → Type 0
IsCheckerEnd words known old new status = ((answer : Answer) × (status ≡ answer_status answer) × IsChecked words known old new answer) ⊎ ((why : Stop) × (status ≡ stop_status why) × IsStopOf words known old new why)

module _ {Z : Type 0} where
  -- the program ends with this status, by the arguments as the system gives them; or there was no memory for these, and nothing was written
  abbrev pub IsProgramEnd : Result (IntoIter (String Z) Z) Error → Option (List ℕ) → Option (List ℕ) → Option (List ℕ) → ℕ → Type 0
  IsProgramEnd given known old new status =
      ((words : List (List ℕ)) × IsAskedBy given words × IsCheckerEnd words known old new status) ⊎ (MayLackMemory given × (status ≡ stop_status (stop.Fault fault.NoMemory)) × Keeps old new)
