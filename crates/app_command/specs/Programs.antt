-- How the program ends, by the arguments that the system gives it.
use Rattle.std.specs.Prelude.{◌≡◌, ◌⊎◌, ℕ, List, Option, Result, String}
use Rattle.std.specs.{Io.KnownBytes.Keeps, declared.io.Error.Error, declared.vec.IntoIter.IntoIter}
use Rattle.app_text.specs.{Faults.fault_status, Given.IsAskedBy, Given.MayLackMemory, declared.faults.Fault.Fault as fault}
use Rattle.app_threads.specs.declared.sharing.Sharing.{Sharing as sharing}
use Rattle.app_command.specs.{declared.command.Exit.Exit, Ends.IsEnd}

module _ {Z : Type 0} where
  -- the arguments are those by which it is asked, and the end is that of what they ask for
  pub record IsAskedEnd (given : Result (IntoIter (String Z) Z) Error) (known old new : Option (List ℕ)) (ended : Exit) : Type 0 where
    pub words : List (List ℕ)
    pub asked : IsAskedBy given words
    pub ends : IsEnd words ended.sharing known old new ended.status

  -- there was no memory for the arguments: nothing was written, no threads shared anything, and the status tells so
  pub record IsWantOfMemory (given : Result (IntoIter (String Z) Z) Error) (old new : Option (List ℕ)) (ended : Exit) : Type 0 where
    pub may : MayLackMemory given
    pub status_is : ended.status ≡ fault_status fault.NoMemory
    pub nothing_shared : ended.sharing ≡ sharing.Nothing
    pub quiet : Keeps old new

  -- the program ends so
  abbrev pub IsEndOf : Result (IntoIter (String Z) Z) Error → Option (List ℕ) → Option (List ℕ) → Option (List ℕ) → Exit → Type 0
  IsEndOf given known old new ended = IsAskedEnd given known old new ended ⊎ IsWantOfMemory given old new ended
