-- What an act on the count of parties does to it, and when a seat may do it.
use Rattle.std.specs.Prelude.{◌≡◌, ℕ, ◌+◌, ◌-◌, ◌%◌, ◌^◌, List}
use mathlib.Core.Option.{some}
use lib.ListN.{get_elem?}
use Rattle.shared_parties.specs.{declared.count.Change.Change, declared.known.CallState.CallState, CallStates.Sharing, Parting.Recounts}

-- the count n becomes this, as a word of 64 bits
abbrev pub changed : Change → ℕ → ℕ
changed Change.Raise n = (n + 1) % 2 ^ 64
changed Change.Lower n = (n + (2 ^ 64 - 1)) % 2 ^ 64
changed Change.Look n = n

-- whatever the count is, and whoever the seats are, the seat id that knows d may do it, and this is told
abbrev pub MayAct : {T : Type 0} → Change → (ℕ → CallState T → CallState T → Type 0) → ℕ → CallState T → Type 0
MayAct {T} c tells id d = (n : ℕ) (vs : List (CallState T)) (k : Sharing n vs) → get_elem? vs id ≡ some d → Recounts k id (changed c n) (tells n d)
