-- Which party has the lock of a slot, and what it is about to do.
use Rattle.std.proofs.Common.{ℕ, ◌≡◌, ◌==◌, if◌then◌else◌}

-- what the party that has the lock is about to do
pub data SlotHolder (T : Type 0) : Type 0 where
  Nobody : SlotHolder T
  Filling : T → SlotHolder T
  Swapping : T → T → SlotHolder T
  Taking : T → SlotHolder T

-- which party has the lock, and what it is about to do
pub record LockHolder (T : Type 0) : Type 0 where
  pub who : ℕ
  pub hold : SlotHolder T

-- what party p has of the lock
abbrev pub own_of : {T : Type 0} → ℕ → SlotHolder T → ℕ → SlotHolder T
own_of who h p = if p == who then h else Nobody

abbrev pub Idle : {T : Type 0} → LockHolder T → ℕ → Type 0
Idle g p = own_of g.who g.hold p ≡ Nobody
