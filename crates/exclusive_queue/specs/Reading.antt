-- What an iterator over a queue with one owner has left.
use Rattle.std.specs.Prelude.{List, [], ◌∷◌, Option, Some, None}
use Rattle.std.specs.Borrow.{Bor}
use Rattle.exclusive_queue.specs.declared.exclusive.reading.Left.{Left, Left as left}

abbrev pub shown : {T : Type 0} → Option (Bor T) → List T
shown None = []
shown (Some x) = x.now ∷ []

abbrev pub list_of : {T A : Type 0} → Left T A → List T
list_of (left.Slot item) = shown item
list_of (left.Ring items) = items
list_of (left.Chain items) = items
