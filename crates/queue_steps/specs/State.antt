-- The abstract queue: a list, an optional capacity, a closed flag, at most one item on its way in, and how many items were accepted.
use Rattle.std.specs.Prelude.{◌≡◌, ◌⊎◌, ℕ, ◌<◌, Bool, true, false, List, [], length, Option, Some, None, nat_eq}
use Rattle.queue_steps.specs.declared.sizes.TheConstants.{LIMIT}

pub record State (T : Type 0) : Type 0 where
  pub items : List T
  pub cap : Option ℕ
  pub closed : Bool
  pub coming : Option T
  pub accepted : ℕ

-- an empty open queue that has accepted n items
abbrev pub start : {T : Type 0} → Option ℕ → ℕ → State T
start {T} cap n = record { items = []; cap = cap; closed = false; coming = None; accepted = n }

-- whether n items fill a queue of this capacity
abbrev pub fills : Option ℕ → ℕ → Bool
fills None n = false
fills (Some c) n = nat_eq n c

-- the list has the capacity's length
abbrev pub is_full : {T : Type 0} → State T → Bool
is_full Q = fills Q.cap (length Q.items)

-- the capacity is one: a queue of one slot
abbrev pub is_slot_cap : Option ℕ → Bool
is_slot_cap None = false
is_slot_cap (Some c) = nat_eq c 1

-- the queue may accept one item more: a queue of one slot always, any other until it has accepted LIMIT items
abbrev pub IsBelow : {T : Type 0} → State T → Type 0
IsBelow Q = (is_slot_cap Q.cap ≡ true) ⊎ (Q.accepted < LIMIT)
