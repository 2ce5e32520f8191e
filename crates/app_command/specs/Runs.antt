-- A run of the program whatever the lines of its input say, and how it may end.
use Rattle.std.specs.Prelude.{◌≡◌, ◌⊎◌, ℕ, List, Option}
use Rattle.std.specs.Io.KnownBytes.{Appends, Keeps}
use Rattle.app_text.specs.{Lines.lines_of, Lines.AreRead, Lines.IsFirstUnread, Streams.IsBegun, Streams.IsInput, declared.faults.Fault.Fault, declared.faults.Fault.Fault as fault}

-- each line of the input was read as a value, and a text that tells of the values was written
pub record IsRun {V : Type 0} (IsValue : V → Type 0) (text_of : V → List ℕ) (IsTold : List V → List ℕ → Type 0) (known old new : Option (List ℕ)) : Type 0 where
  pub bytes : List ℕ
  pub input : IsInput known bytes
  pub values : List V
  pub read : AreRead IsValue text_of (lines_of bytes) values
  pub text : List ℕ
  pub told : IsTold values text
  pub output : Appends old new text

-- each line of the input was read as a value, and a beginning of a text that tells of the values was written
pub record IsBegunRun {V : Type 0} (IsValue : V → Type 0) (text_of : V → List ℕ) (IsTold : List V → List ℕ → Type 0) (known old new : Option (List ℕ)) : Type 0 where
  pub bytes : List ℕ
  pub input : IsInput known bytes
  pub values : List V
  pub read : AreRead IsValue text_of (lines_of bytes) values
  pub text : List ℕ
  pub told : IsTold values text
  pub output : IsBegun old new text

-- why the lines were not run to their end. But for a failed write, nothing is written then
abbrev pub IsRunFault : {V : Type 0} → (V → Type 0) → (V → List ℕ) → (List V → List ℕ → Type 0) → Option (List ℕ) → Option (List ℕ) → Option (List ℕ) → Fault → Type 0
IsRunFault IsValue text_of IsTold known old new fault.Usage = ⊥
IsRunFault IsValue text_of IsTold known old new (fault.Unreadable n) = (bytes : List ℕ) × IsInput known bytes × IsFirstUnread IsValue text_of (lines_of bytes) n × Keeps old new
IsRunFault IsValue text_of IsTold known old new fault.NoMemory = Keeps old new
IsRunFault IsValue text_of IsTold known old new fault.InputFailed = Keeps old new
IsRunFault IsValue text_of IsTold known old new fault.OutputFailed = IsBegunRun IsValue text_of IsTold known old new

-- the same of a run that asks for memory while it writes. Where there is none, nothing is written, or a beginning once each line was read
abbrev pub IsPartRunFault : {V : Type 0} → (V → Type 0) → (V → List ℕ) → (List V → List ℕ → Type 0) → Option (List ℕ) → Option (List ℕ) → Option (List ℕ) → Fault → Type 0
IsPartRunFault IsValue text_of IsTold known old new fault.NoMemory = Keeps old new ⊎ IsBegunRun IsValue text_of IsTold known old new
IsPartRunFault IsValue text_of IsTold known old new why = IsRunFault IsValue text_of IsTold known old new why

-- a text of this sort was written
pub record IsWritten (IsText : List ℕ → Type 0) (old new : Option (List ℕ)) : Type 0 where
  pub text : List ℕ
  pub is_text : IsText text
  pub output : Appends old new text

-- a beginning of a text of this sort was written
pub record IsPartWritten (IsText : List ℕ → Type 0) (old new : Option (List ℕ)) : Type 0 where
  pub text : List ℕ
  pub is_text : IsText text
  pub output : IsBegun old new text

-- what may end a run while it writes
abbrev pub IsPartFault : Fault → Type 0
IsPartFault why = (why ≡ fault.NoMemory) ⊎ (why ≡ fault.OutputFailed)

-- no text of this sort was written to its end, and why. A beginning of one was
abbrev pub IsWriteFault : (List ℕ → Type 0) → Option (List ℕ) → Option (List ℕ) → Fault → Type 0
IsWriteFault IsText old new why = IsPartFault why × IsPartWritten IsText old new
