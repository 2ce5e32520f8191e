-- The input was read, and what is told of it is written: the run is at its end.
use Rattle.std.proofs.Common.{◌≡◌, ℕ, List, Option, Result, Ok, Err, MatchResult, OnErr, inl, inr}
use Rattle.std.specs.Io.KnownBytes.{Appends}
use Rattle.app_text.specs.{Lines.lines_of, Lines.AreRead, declared.faults.Fault.Fault, declared.faults.Fault.Fault as fault, Streams.IsBegun, Streams.IsInput}
use Rattle.app_command.specs.Runs.{IsRun, IsRunFault, IsPartRunFault, IsBegunRun, IsPartFault, IsWritten, IsWriteFault}

pub written : {V : Type 0} (IsValue : V → Type 0) (text_of : V → List ℕ) (IsTold : List V → List ℕ → Type 0) (known old new : Option (List ℕ)) (bytes : List ℕ) (values : List V) (text : List ℕ) (r : Result Unit Fault)
    → IsInput known bytes → AreRead IsValue text_of (lines_of bytes) values → IsTold values text → MatchResult r (λ u. Appends old new text) (λ why. why ≡ fault.OutputFailed) → OnErr r (IsBegun old new text)
    → MatchResult r (λ u. IsRun IsValue text_of IsTold known old new) (IsRunFault IsValue text_of IsTold known old new)
written IsValue text_of IsTold known old new bytes values text (Ok u) input read told wrote begun = record { bytes = bytes; input = input; values = values; read = read; text = text; told = told; output = wrote }
written IsValue text_of IsTold known old new bytes values text (Err why) input read told failed begun = rw failed (record { bytes = bytes; input = input; values = values; read = read; text = text; told = told; output = begun })

-- the same where what is told is written while it is made
pub written_on : {V : Type 0} (IsValue : V → Type 0) (text_of : V → List ℕ) (IsTold : List V → List ℕ → Type 0) (known old new : Option (List ℕ)) (bytes : List ℕ) (values : List V) (r : Result Unit Fault)
    → IsInput known bytes → AreRead IsValue text_of (lines_of bytes) values → MatchResult r (λ u. IsWritten (IsTold values) old new) (IsWriteFault (IsTold values) old new)
    → MatchResult r (λ u. IsRun IsValue text_of IsTold known old new) (IsPartRunFault IsValue text_of IsTold known old new)
written_on IsValue text_of IsTold known old new bytes values (Ok u) input read w = record { bytes = bytes; input = input; values = values; read = read; text = w.text; told = w.is_text; output = w.output }
written_on IsValue text_of IsTold known old new bytes values (Err why) input read w = by_fault w.0
  where
    part : IsBegunRun IsValue text_of IsTold known old new
    part = record { bytes = bytes; input = input; values = values; read = read; text = w.1.text; told = w.1.is_text; output = w.1.output }

    by_fault : IsPartFault why → IsPartRunFault IsValue text_of IsTold known old new why
    by_fault (inl none) = rw none (inr part)
    by_fault (inr failed) = rw failed part
