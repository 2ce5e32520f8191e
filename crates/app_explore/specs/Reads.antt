-- What reading the lines of a program finds.
use Rattle.std.specs.Prelude.{◌≡◌, ◌≢◌, ℕ, ◌+◌, List, [], ◌∷◌, ◌++◌, codes, length}
use Rattle.queue_steps.specs.declared.model.Call.{Call}
use Rattle.app_explore.specs.{Programs.program_lines, Programs.IsProgram, declared.read_faults.ReadFault.ReadFault, declared.read_faults.ReadFault.ReadFault as fault}

-- these are the lines of this program
pub record IsReadAs (lines : List (List ℕ)) (before : List (Call ℕ)) (parties : List (List (Call ℕ))) : Type 0 where
  pub is_program : IsProgram before parties
  pub lines_are : program_lines before parties ≡ lines

-- with these lines some program begins
pub record BeginsProgram (lines : List (List ℕ)) : Type 0 where
  pub before : List (Call ℕ)
  pub parties : List (List (Call ℕ))
  pub is_program : IsProgram before parties
  pub more : List (List ℕ)
  pub lines_are : program_lines before parties ≡ lines ++ more

-- with the next line no program begins so; or there is no next line, and no program has these alone
abbrev pub IsWrong : List (List ℕ) → List (List ℕ) → Type 0
IsWrong begun [] = (before : List (Call ℕ)) (parties : List (List (Call ℕ))) → IsProgram before parties → program_lines before parties ≢ begun
IsWrong begun (line ∷ after) = BeginsProgram (begun ++ line ∷ []) → ⊥

-- line n, counted from 1, is the first that is wrong, or the one that is missing
pub record IsFirstWrong (lines : List (List ℕ)) (n : ℕ) : Type 0 where
  pub begun : List (List ℕ)
  pub rest : List (List ℕ)
  pub lines_are : lines ≡ begun ++ rest
  pub number : n ≡ length begun + 1
  pub begins : BeginsProgram begun
  pub wrong : IsWrong begun rest

-- why no program was read
abbrev pub IsProgramFault : List (List ℕ) → ReadFault → Type 0
IsProgramFault lines (fault.Unreadable n why) = IsFirstWrong lines n
IsProgramFault lines fault.NoMemory = Unit {0}

-- the first line is no line of calls before
abbrev pub HasNoBefore : List (List ℕ) → Type 0
HasNoBefore [] = Unit {0}
HasNoBefore (line ∷ lines) = (spelled : List ℕ) → line ≢ codes "before:" ++ spelled
