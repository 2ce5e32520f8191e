-- The ring that keeps a pool.
use Rattle.std.specs.Prelude.{◌≡◌, ◌≢◌, ℕ, ◌<◌, true, Some}
use Rattle.std.specs.{List.All, List.AllPairs, Option.unwrap_or}
use Rattle.queue_steps.specs.{declared.sizes.TheConstants.LIMIT, Sequential.Owned}
use Rattle.use_owner.specs.Pool.{Places}

abbrev pub count_of : Owned ℕ → ℕ
count_of ring = unwrap_or ring.queue.cap 0

-- the pool that the ring keeps
abbrev pub places_of : Owned ℕ → Places
places_of ring = record { count = count_of ring; free = ring.queue.items; put_in = ring.queue.accepted }

-- it has a slot for each place, two at least, holds numbers of places, none of them twice, and is closed only once it has accepted all that it ever will
pub record IsPool (ring : Owned ℕ) : Type 0 where
  pub capped : ring.queue.cap ≡ Some (count_of ring)
  pub many : 1 < count_of ring
  pub places : All (λ place. place < count_of ring) ring.queue.items
  pub once : AllPairs (λ p q. p ≢ q) ring.queue.items
  pub shut_when_spent : ring.queue.closed ≡ true → ring.queue.accepted ≡ LIMIT
