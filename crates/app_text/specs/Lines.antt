-- The lines of a text, and what reading them says.
use Rattle.std.specs.Prelude.{◌≡◌, ◌≢◌, ℕ, ◌+◌, ◌==◌, if◌then◌else◌, List, [], ◌∷◌, ◌++◌, map, length}
use Rattle.std.specs.List.{AllByRecursion}
use Rattle.app_text.specs.declared.faults.Fault.{Fault, Fault as fault}

-- with this byte before the first line
abbrev pub with_byte : ℕ → List (List ℕ) → List (List ℕ)
with_byte b [] = (b ∷ []) ∷ []
with_byte b (line ∷ lines) = (b ∷ line) ∷ lines

-- the lines of a text. Each ends with a line feed, which the last may lack
abbrev pub lines_of : List ℕ → List (List ℕ)
lines_of [] = []
lines_of (b ∷ bs) = if b == 10 then [] ∷ lines_of bs else with_byte b (lines_of bs)

-- these are the values of the lines, one of each line
abbrev pub AreRead : {V : Type 0} → (V → Type 0) → (V → List ℕ) → List (List ℕ) → List V → Type 0
AreRead IsValue text_of lines values = AllByRecursion IsValue values × (map text_of values ≡ lines)

-- line n, counted from 1, is the first that is the text of no value
pub record IsFirstUnread {V : Type 0} (IsValue : V → Type 0) (text_of : V → List ℕ) (lines : List (List ℕ)) (n : ℕ) : Type 0 where
  pub before : List V
  pub line : List ℕ
  pub after : List (List ℕ)
  pub read : AllByRecursion IsValue before
  pub lines_are : lines ≡ map text_of before ++ line ∷ after
  pub number : n ≡ length before + 1
  pub unread : (v : V) → IsValue v → text_of v ≢ line

-- why the lines were not all read
abbrev pub IsReadFault : {V : Type 0} → (V → Type 0) → (V → List ℕ) → List (List ℕ) → Fault → Type 0
IsReadFault IsValue text_of lines (fault.Unreadable n) = IsFirstUnread IsValue text_of lines n
IsReadFault IsValue text_of lines fault.NoMemory = Unit {0}
IsReadFault IsValue text_of lines _ = ⊥
