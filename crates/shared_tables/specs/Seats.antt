-- The seats at the table of a shared queue, whatever the queue is made of.
use Rattle.std.specs.Prelude.{◌≡◌, ℕ, [], Option, slice_index_or}
use Rattle.atomic_table.specs.Table.{State, Me}
use Rattle.queue_steps.specs.Parties.{View}
use Rattle.shared_parties.specs.{declared.known.CallState.CallState, Known.view_of, CallStates.IsResting}

-- a table, and what a seat knows and holds
abbrev pub Table : Type 0 → Type 0
Table T = State (Option T) (CallState T)

abbrev pub Seated : Type 0 → Type 0
Seated T = Me (Option T) (CallState T)

-- the seat of one party that is between its calls
abbrev pub Rests : {T : Type 0} → Seated T → Type 0
Rests m = IsResting m.0 × (m.1 ≡ [])

abbrev pub view_at : {T : Type 0} → Seated T → View T
view_at m = view_of m.0.known

-- the word that counts the parties
abbrev pub count_of : {T : Type 0} → Table T → ℕ
count_of s = slice_index_or s.words 0 0

-- a step tells this of what the seat knows, and leaves its slots
abbrev pub OfView : {T : Type 0} → (CallState T → CallState T → Type 0) → Seated T → Seated T → Type 0
OfView R m n = R m.0 n.0 × (n.1 ≡ m.1)
