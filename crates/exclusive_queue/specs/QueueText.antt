-- What `{:?}` prints of a queue, and of an iterator over it.
use Rattle.std.specs.Prelude.{ℕ, Bool, List, [], ◌∷◌, length, Option, Some, None, codes, if◌then◌else◌}
use Rattle.std.specs.{List.concat, Fmt.decimal}
use Rattle.queue_steps.specs.Sequential.{Owned}

abbrev pub capacity_text : Option ℕ → List ℕ
capacity_text None = codes "None"
capacity_text (Some cap) = concat (codes "Some(" ∷ decimal cap ∷ codes ")" ∷ [])

abbrev pub flag_text : Bool → List ℕ
flag_text b = if b then codes "true" else codes "false"

-- its name and three fields
abbrev pub queue_text : List ℕ → ℕ → Option ℕ → Bool → List ℕ
queue_text name len cap closed = concat (name ∷ codes " { len: " ∷ decimal len ∷ codes ", capacity: " ∷ capacity_text cap ∷ codes ", is_closed: " ∷ flag_text closed ∷ codes " }" ∷ [])

-- a queue with one owner
abbrev pub exclusive_text : {T : Type 0} → Owned T → List ℕ
exclusive_text P = queue_text (codes "Exclusive") (length P.queue.items) P.queue.cap P.queue.closed

-- an iterator over it
abbrev pub iter_text : {T : Type 0} → Owned T → List ℕ
iter_text P = concat (codes "Iter(" ∷ exclusive_text P ∷ codes ")" ∷ [])
