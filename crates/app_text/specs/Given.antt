-- The arguments as the system gives them.
use Rattle.std.specs.Prelude.{◌≡◌, ◌≢◌, ℕ, List, [], Result, Ok, Err, String, ⊤, drop, map, string_bytes}
use Rattle.std.specs.{IoError.error_kind, Vec.Iter.into_iter_items, declared.io.Error.Error, declared.io.ErrorKind.TheVariants.OutOfMemory, declared.vec.IntoIter.IntoIter}

module _ {Z : Type 0} where
  -- what was given asks by these words: all behind the program's name, however many. Arguments that are no text ask by none
  abbrev pub IsAskedBy : Result (IntoIter (String Z) Z) Error → List (List ℕ) → Type 0
  IsAskedBy (Ok args) words = words ≡ map string_bytes (drop 1 (into_iter_items args))
  IsAskedBy (Err error) words = (error_kind error ≢ OutOfMemory) × (words ≡ [])

  -- there was no memory for the arguments, or there may be none for the list of the words
  abbrev pub MayLackMemory : Result (IntoIter (String Z) Z) Error → Type 0
  MayLackMemory (Ok args) = ⊤
  MayLackMemory (Err error) = error_kind error ≡ OutOfMemory
