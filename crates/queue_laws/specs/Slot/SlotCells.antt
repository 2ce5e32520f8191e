-- One slot as a value, with who has the lock: the queue that it stands for, what a step of one party leaves for the others, and who has the slot.
use Rattle.std.proofs.Common.{ℕ, ◌≡◌, ◌≢◌, Bool, Option, Some, None, List, [], ◌∷◌}
use Rattle.queue_steps.specs.State.{State}
use Rattle.queue_laws.specs.Slot.{SlotHolder.SlotHolder, SlotHolder.Nobody, SlotHolder.Filling, SlotHolder.Swapping, SlotHolder.Taking, SlotHolder.LockHolder, SlotHolder.own_of, SlotRows.single}

-- who has the lock, and the queue
pub record Slot (T : Type 0) : Type 0 where
  pub keeps : LockHolder T
  pub items : List T
  pub closed : Bool
  pub accepted : ℕ

-- the state of the queue that the slot stands for
abbrev pub queue_of : {T : Type 0} → Slot T → State T
queue_of g = single g.items g.closed g.accepted

-- what the party has of the lock
abbrev pub own_in : {T : Type 0} → Slot T → ℕ → SlotHolder T
own_in g who = own_of g.keeps.who g.keeps.hold who

-- a step of this party leaves what the others have of the lock
abbrev pub Passes : {T : Type 0} → ℕ → Slot T → Slot T → Type 0
Passes who g s = (j : ℕ) → j ≢ who → own_in s j ≡ own_in g j

-- the slots that a party has which has this of the lock, each with what lies in it: none, or the one
abbrev pub lent_by : {T : Type 0} → SlotHolder T → List (ℕ × Option T)
lent_by Nobody = []
lent_by (Filling v) = (0, None) ∷ []
lent_by (Swapping old v) = (0, Some old) ∷ []
lent_by (Taking x) = (0, Some x) ∷ []

abbrev pub Lent : {T : Type 0} → Slot T → ℕ → List (ℕ × Option T) → Type 0
Lent g who xs = xs ≡ lent_by (own_in g who)

-- somebody has the lock
abbrev pub IsHeld : {T : Type 0} → SlotHolder T → Type 0
IsHeld Nobody = ⊥
IsHeld _ = Unit {0}
