-- The status that a run ends with which came to its end, and the faults of a run that reads nothing.
use Rattle.std.specs.{Prelude.ℕ, Prelude.List, Prelude.Option, Io.KnownBytes.Keeps}
use Rattle.app_text.specs.{declared.faults.Fault.Fault, Streams.IsBegun, declared.faults.Fault.Fault as fault}
use Rattle.app_threads.specs.declared.verdict.Verdict.{Verdict, Verdict as verdict}

abbrev pub verdict_status : Verdict → ℕ
verdict_status verdict.Right = 0
verdict_status verdict.Wrong = 1

-- why a run that reads nothing, and writes such a text, did not come to its end: after a failed write a beginning of the text is written, and else nothing
abbrev pub IsOutputFault : (List ℕ → Type 0) → Option (List ℕ) → Option (List ℕ) → Fault → Type 0
IsOutputFault IsText old new fault.Usage = ⊥
IsOutputFault IsText old new (fault.Unreadable n) = ⊥
IsOutputFault IsText old new fault.NoMemory = Keeps old new
IsOutputFault IsText old new fault.InputFailed = ⊥
IsOutputFault IsText old new fault.OutputFailed = (text : List ℕ) × IsText text × IsBegun old new text
