-- The lines of a small program. It is given by the calls that are made before the parties begin, and by the calls of each party.
use Rattle.std.specs.Prelude.{ℕ, ◌+◌, ◌<◌, ◌≤◌, ◌==◌, List, [], ◌∷◌, ◌++◌, codes, length}
use Rattle.std.specs.{List.AllByRecursion, List.slice_split, Fmt.decimal}
use Rattle.queue_steps.specs.declared.model.Call.{Call}
use Rattle.app_text.specs.Calls.{call_text, IsCallOfWord}
use Rattle.app_explore.specs.{Lists.listed, declared.limits.TheConstants.MOST_PARTIES, declared.limits.TheConstants.MOST_CALLS, declared.limits.TheConstants.MOST_CALLS_BEFORE}

-- a call behind a space
abbrev pub spaced_call : Call ℕ → List ℕ
spaced_call c = 32 ∷ call_text c

abbrev pub calls_text : List (Call ℕ) → List ℕ
calls_text calls = listed call_text calls

-- what stands between the semicolons of a text
abbrev pub parts_of : List ℕ → List (List ℕ)
parts_of text = slice_split (λ b. b == 59) text

abbrev pub before_line : List (Call ℕ) → List ℕ
before_line calls = codes "before:" ++ calls_text calls

-- no calls before are no line
abbrev pub before_lines : List (Call ℕ) → List (List ℕ)
before_lines [] = []
before_lines (c ∷ cs) = before_line (c ∷ cs) ∷ []

abbrev pub party_line : ℕ → List (Call ℕ) → List ℕ
party_line n calls = decimal n ++ codes ":" ++ calls_text calls

-- a line for each party, of which the first has the number n
abbrev pub party_lines : ℕ → List (List (Call ℕ)) → List (List ℕ)
party_lines n [] = []
party_lines n (calls ∷ others) = party_line n calls ∷ party_lines (n + 1) others

abbrev pub program_lines : List (Call ℕ) → List (List (Call ℕ)) → List (List ℕ)
program_lines before parties = before_lines before ++ party_lines 0 parties

-- one or more calls, and no more than these
abbrev pub IsCalls : ℕ → List (Call ℕ) → Type 0
IsCalls most calls = (0 < length calls) × (length calls ≤ most) × AllByRecursion IsCallOfWord calls

-- the calls of the party of this number
abbrev pub IsPartyCalls : ℕ → List (Call ℕ) → Type 0
IsPartyCalls n calls = (n < MOST_PARTIES) × IsCalls MOST_CALLS calls

-- the calls that are made before the parties begin, which need not be there
abbrev pub IsBefore : List (Call ℕ) → Type 0
IsBefore calls = (length calls ≤ MOST_CALLS_BEFORE) × AllByRecursion IsCallOfWord calls

-- the program is small enough, and each party has something to do
pub record IsProgram (before : List (Call ℕ)) (parties : List (List (Call ℕ))) : Type 0 where
  pub is_before : IsBefore before
  pub some : 0 < length parties
  pub few : length parties ≤ MOST_PARTIES
  pub each : AllByRecursion (IsCalls MOST_CALLS) parties
