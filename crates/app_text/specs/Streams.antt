-- What is read of an input, and written of an output.
use Rattle.std.specs.Prelude.{◌≡◌, ℕ, List, ◌++◌, Option, Result, MatchResult}
use Rattle.std.specs.{Io.KnownBytes.Appends, Option.IfSome}
use Rattle.app_text.specs.declared.faults.Fault.{Fault, Fault as fault}

-- these bytes were read: all that the reader had, where that is known
abbrev pub IsInput : Option (List ℕ) → List ℕ → Type 0
IsInput known bytes = IfSome known (λ xs. bytes ≡ xs)

-- a beginning of the text was written, or all of it
pub record IsBegun (old new : Option (List ℕ)) (text : List ℕ) : Type 0 where
  pub begun : List ℕ
  pub rest : List ℕ
  pub text_is : text ≡ begun ++ rest
  pub appends : Appends old new begun

-- a beginning of the text was written, and this rest of it is left
pub record LeavesRest (old new : Option (List ℕ)) (text rest : List ℕ) : Type 0 where
  pub begun : List ℕ
  pub text_is : text ≡ begun ++ rest
  pub appends : Appends old new begun

-- what a text was put behind was written with it, but for what is held now; or else a beginning of both was
abbrev pub Puts : List ℕ → List ℕ → List ℕ → Option (List ℕ) → Option (List ℕ) → Result Unit Fault → Type 0
Puts held text kept old new r = MatchResult r (λ u. LeavesRest old new (held ++ text) kept) (λ why. (why ≡ fault.OutputFailed) × IsBegun old new (held ++ text))
