-- A ring that was just made.
use Rattle.std.specs.Prelude.{◌≡◌, ℕ, List, Option, Some}
use Rattle.queue_steps.specs.State.{start}
use Rattle.own_cells.specs.OneRing.{RingMemory.ring_in, RingOwned.IsIdle, RingOwned.ring_owned}

-- the words and slots of a table are an empty open ring whose positions stand as after n items
pub record IsNew {T : Type 0} (cap n : ℕ) (ws : List ℕ) (xs : List (Option T)) : Type 0 where
  pub idle : IsIdle (ring_in cap ws xs)
  pub empty : ring_owned (ring_in cap ws xs) ≡ record { queue = start (Some cap) n; blocks = 0 }
