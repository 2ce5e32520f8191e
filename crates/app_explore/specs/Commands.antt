-- How the explorer may end.
use Rattle.std.specs.Prelude.{◌≡◌, ◌⊎◌, ℕ, List, Option, Result, String}
use Rattle.std.specs.{Io.KnownBytes.Appends, Io.KnownBytes.Keeps, declared.io.Error.Error, declared.vec.IntoIter.IntoIter}
use Rattle.app_text.specs.{Given.IsAskedBy, Given.MayLackMemory, Streams.IsBegun, Streams.IsInput, declared.faults.Fault.Fault as fault}
use Rattle.app_explore.specs.{Listings.MayStop, Listings.IsTold, Requests.IsRequest, Requests.IsRequestFault, Requests.request_words, Stops.stop_status, declared.args.Request.Request, declared.faults.Stop.Stop, declared.faults.Stop.Stop as stop}

-- the arguments ask for this
abbrev pub AskFor : List (List ℕ) → Request → Type 0
AskFor words r = IsRequest r × (request_words r ≡ words)

-- what the arguments ask for was told of the program that the input names, and all of it was written
pub record IsExplored (words : List (List ℕ)) (known old new : Option (List ℕ)) : Type 0 where
  pub request : Request
  pub asked : AskFor words request
  pub bytes : List ℕ
  pub input : IsInput known bytes
  pub text : List ℕ
  pub told : IsTold request bytes text
  pub output : Appends old new text

-- the same, and a beginning of it was written
pub record IsBegunExplored (words : List (List ℕ)) (known old new : Option (List ℕ)) : Type 0 where
  pub request : Request
  pub asked : AskFor words request
  pub bytes : List ℕ
  pub input : IsInput known bytes
  pub text : List ℕ
  pub told : IsTold request bytes text
  pub output : IsBegun old new text

-- nothing that there is, is asked for
abbrev pub AsksForNothing : List (List ℕ) → Type 0
AsksForNothing words = (r : Request) → AskFor words r → ⊥

-- something is asked for
abbrev pub AsksForSome : List (List ℕ) → Type 0
AsksForSome words = (r : Request) × AskFor words r

-- something is asked for, and the input was read; this is why nothing was told
pub record IsRefusedAsk (words : List (List ℕ)) (known : Option (List ℕ)) (why : Stop) : Type 0 where
  pub request : Request
  pub asked : AskFor words request
  pub bytes : List ℕ
  pub input : IsInput known bytes
  pub refused : MayStop request bytes why

-- why it was not told. But for a failed write, nothing is written then
abbrev pub IsStopOf : List (List ℕ) → Option (List ℕ) → Option (List ℕ) → Option (List ℕ) → Stop → Type 0
IsStopOf words known old new (stop.Usage why) = Keeps old new × AsksForNothing words × IsRequestFault words why
IsStopOf words known old new (stop.Fault fault.Usage) = ⊥
IsStopOf words known old new (stop.Fault fault.InputFailed) = Keeps old new × AsksForSome words
IsStopOf words known old new (stop.Fault fault.NoMemory) = Keeps old new × AsksForSome words
IsStopOf words known old new (stop.Fault fault.OutputFailed) = IsBegunExplored words known old new
IsStopOf words known old new why = Keeps old new × IsRefusedAsk words known why

-- it ends with 0 where all was told, and else with the status of why it was not
abbrev pub IsExplorerEnd : List (List ℕ) → Option (List ℕ) → Option (List ℕ) → Option (List ℕ) → ℕ → Type 0
IsExplorerEnd words known old new status = ((status ≡ 0) × IsExplored words known old new) ⊎ ((why : Stop) × (status ≡ stop_status why) × IsStopOf words known old new why)

module _ {Z : Type 0} where
  -- the program ends with this status, by the arguments as the system gives them; or there was no memory for these, and nothing was written
  abbrev pub IsProgramEnd : Result (IntoIter (String Z) Z) Error → Option (List ℕ) → Option (List ℕ) → Option (List ℕ) → ℕ → Type 0
  IsProgramEnd given known old new status =
      ((words : List (List ℕ)) × IsAskedBy given words × IsExplorerEnd words known old new status) ⊎ (MayLackMemory given × (status ≡ stop_status (stop.Fault fault.NoMemory)) × Keeps old new)
