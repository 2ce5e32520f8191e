-- A party's seat at the table of a shared queue: between calls, where a slot is touched, and when a call ended.
use Rattle.std.specs.Prelude.{◌≡◌, ℕ, ◌∷◌, Option}
use Rattle.atomic_table.specs.{Table.rest, Seated.TableId}
use Rattle.queue_laws.specs.Common.Vocabulary.{Call, Reply, Touch}
use Rattle.queue_steps.specs.{Effect.IsHistory, Parties.SharedCall}
use Rattle.shared_tables.specs.Seats.{Seated, Rests, view_at}
use Rattle.shared_parties.specs.CallStates.{HasAll}

-- the table at which a party sits, and its seat
abbrev pub TableSeat : Type 0 → Type 0
TableSeat T = TableId × Seated T

-- the seat holds the slot that is touched
abbrev pub CanTouch : {T : Type 0} → Touch → Seated T → Type 0
CanTouch Touch.Nothing m = Unit {0}
CanTouch {T} (Touch.Put k) m = (y : Option T) × (m.1 ≡ (k, y) ∷ rest m.1)
CanTouch {T} (Touch.Swap k) m = (y : Option T) × (m.1 ≡ (k, y) ∷ rest m.1)
CanTouch {T} (Touch.Take k) m = (y : Option T) × (m.1 ≡ (k, y) ∷ rest m.1)

-- the slot k and what the call carries change places
abbrev pub Swapped : {T : Type 0} → ℕ → Seated T → Option T → Seated T → Option T → Type 0
Swapped k m x m' x' = (m.1 ≡ (k, x') ∷ rest m.1) × (m' ≡ (m.0, (k, x) ∷ rest m.1))

abbrev pub Touched : {T : Type 0} → Touch → Seated T → Option T → Seated T → Option T → Type 0
Touched Touch.Nothing m x m' x' = (m' ≡ m) × (x' ≡ x)
Touched (Touch.Put k) m x m' x' = Swapped k m x m' x'
Touched (Touch.Swap k) m x m' x' = Swapped k m x m' x'
Touched (Touch.Take k) m x m' x' = Swapped k m x m' x'

-- the seat of a party of the queue of this capacity at the table t, between its calls
abbrev pub IsAt : {T : Type 0} → Option ℕ → TableId → TableSeat T → Type 0
IsAt cap t p = (p.0 ≡ t) × Rests p.1 × (p.1.0.known.cap ≡ cap) × IsHistory cap p.1.0.known.seen × HasAll p.1.0

-- the call that began at the place p ended at q
abbrev pub Ended : {T : Type 0} → Option ℕ → TableId → TableSeat T → Call T → Reply T → TableSeat T → Type 0
Ended cap t p c r q = IsAt cap t q × SharedCall cap (view_at p.1) (view_at q.1) c r
