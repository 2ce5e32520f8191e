-- Why a line is none that a program may go on with, and what is written of it.
use Rattle.std.specs.Prelude.{◌≡◌, ◌≢◌, ℕ, ◌<◌, ◌≤◌, List, ◌∷◌, ◌++◌, codes, length}
use Rattle.std.specs.Fmt.{decimal}
use Rattle.queue_steps.specs.declared.model.Call.{Call}
use Rattle.app_text.specs.Calls.{IsCallOfWord}
use Rattle.app_explore.specs.{Programs.parts_of, Programs.spaced_call, declared.read_faults.LineFault.LineFault, declared.read_faults.LineFault.LineFault as wrong, declared.limits.TheConstants.MOST_PARTIES, declared.limits.TheConstants.MOST_CALLS}

abbrev pub line_fault_text : LineFault → List ℕ
line_fault_text wrong.Party = codes "party: a line each, from 0 on, in order"
line_fault_text wrong.TooManyParties = codes "parties: 1 to 8"
line_fault_text (wrong.TooManyCalls most) = codes "calls: 1 to " ++ decimal most
line_fault_text wrong.Call = codes "call: one space, then push N, force N, pop, close, is_closed, is_empty, is_full, len or capacity"

-- what stands between two semicolons of the text is no call
pub record HasNoCall (text : List ℕ) : Type 0 where
  pub before : List (List ℕ)
  pub part : List ℕ
  pub after : List (List ℕ)
  pub parts : parts_of text ≡ before ++ part ∷ after
  pub no_call : (c : Call ℕ) → IsCallOfWord c → spaced_call c ≢ part

-- why the text is not that of some calls, and of no more than these
abbrev pub IsCallsFault : ℕ → List ℕ → LineFault → Type 0
IsCallsFault most text wrong.Call = HasNoCall text
IsCallsFault most text (wrong.TooManyCalls n) = (n ≡ most) × (most < length (parts_of text))
IsCallsFault most text _ = ⊥

-- why the line is not that of the party of this number
abbrev pub IsPartyFault : ℕ → List ℕ → LineFault → Type 0
IsPartyFault n line wrong.Party = (spelled : List ℕ) → line ≢ decimal n ++ codes ":" ++ spelled
IsPartyFault n line wrong.TooManyParties = MOST_PARTIES ≤ n
IsPartyFault n line why = (spelled : List ℕ) × (line ≡ decimal n ++ codes ":" ++ spelled) × IsCallsFault MOST_CALLS spelled why
