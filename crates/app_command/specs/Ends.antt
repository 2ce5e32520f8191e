-- How the program may end.
use Rattle.std.specs.Prelude.{◌≡◌, ◌⊎◌, ℕ, List, Option}
use Rattle.std.specs.Io.KnownBytes.{Keeps}
use Rattle.app_text.specs.{Actions.replay_line_text, Actions.IsReplayLine, Calls.call_text, Calls.IsCallOfWord, KindNames.mode_words, KindNames.IsMode, Faults.fault_status, declared.args.Mode.Mode, declared.args.Mode.Mode as mode, declared.faults.Fault.Fault, declared.faults.Fault.Fault as fault}
use Rattle.app_threads.specs.Counts.{IsCounted, IsCountsLine, IsReceived, IsReceivedText}
use Rattle.app_threads.specs.{Meetings.Handshake, Meetings.IsHandshakeText, Verdicts.verdict_status, Verdicts.IsOutputFault, declared.sharing.Sharing.Sharing, declared.verdict.Verdict.Verdict, declared.verdict.Verdict.Verdict as verdict}
use Rattle.app_command.specs.{Reports.IsReport, Runs.IsRun, Runs.IsRunFault, Runs.IsPartRunFault, Scripts.IsTranscript}

-- the arguments ask for this mode
abbrev pub AskFor : List (List ℕ) → Mode → Type 0
AskFor words f = IsMode f × (mode_words f ≡ words)

-- the arguments ask for a mode
abbrev pub AskForMode : List (List ℕ) → Type 0
AskForMode words = (f : Mode) × AskFor words f

-- the work of the mode was done by threads that shared this, and has shown this
abbrev pub Does : Mode → Sharing → Option (List ℕ) → Option (List ℕ) → Option (List ℕ) → Verdict → Type 0
Does (mode.Script k) shared known old new v = (v ≡ verdict.Right) × IsRun IsCallOfWord call_text (IsTranscript k) known old new
Does (mode.Replay k parties) shared known old new v = (v ≡ verdict.Right) × IsRun IsReplayLine replay_line_text (IsReport k parties) known old new
Does (mode.Threads l) shared known old new v = IsCounted l shared old new v
Does mode.Handshake shared known old new v = Handshake shared old new v
Does (mode.Channel l) shared known old new v = IsReceived l shared old new v

-- the work of the mode, by threads that shared this, met this fault
abbrev pub Fails : Mode → Sharing → Option (List ℕ) → Option (List ℕ) → Option (List ℕ) → Fault → Type 0
Fails (mode.Script k) shared known old new why = IsPartRunFault IsCallOfWord call_text (IsTranscript k) known old new why
Fails (mode.Replay k parties) shared known old new why = IsRunFault IsReplayLine replay_line_text (IsReport k parties) known old new why
Fails (mode.Threads l) shared known old new why = IsOutputFault (IsCountsLine l shared) old new why
Fails mode.Handshake shared known old new why = IsOutputFault (IsHandshakeText shared) old new why
Fails (mode.Channel l) shared known old new why = IsOutputFault (IsReceivedText l shared) old new why

-- why the work was not done: the arguments ask for no mode, or what they ask for met a fault
abbrev pub IsFaultOf : List (List ℕ) → Sharing → Option (List ℕ) → Option (List ℕ) → Option (List ℕ) → Fault → Type 0
IsFaultOf words shared known old new fault.Usage = (AskForMode words → ⊥) × Keeps old new
IsFaultOf words shared known old new why = (f : Mode) × AskFor words f × Fails f shared known old new why

-- the work that the arguments ask for was done, and has shown this
abbrev pub IsDone : List (List ℕ) → Sharing → Option (List ℕ) → Option (List ℕ) → Option (List ℕ) → Verdict → Type 0
IsDone words shared known old new v = (f : Mode) × AskFor words f × Does f shared known old new v

-- the status of what was shown by the work, or of a fault; and what its threads shared
abbrev pub IsEnd : List (List ℕ) → Sharing → Option (List ℕ) → Option (List ℕ) → Option (List ℕ) → ℕ → Type 0
IsEnd words shared known old new status = ((v : Verdict) × (status ≡ verdict_status v) × IsDone words shared known old new v) ⊎ ((why : Fault) × (status ≡ fault_status why) × IsFaultOf words shared known old new why)
