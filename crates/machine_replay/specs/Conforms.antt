-- When what is told of a run conforms to its events.
use Rattle.std.specs.Prelude.{◌≡◌, ℕ, ◌+◌, ◌/◌, ◌<◌, ◌≤◌, Option, Some, None, List, [], ◌∷◌, ◌++◌, length}
use Rattle.machine_replay.specs.Vocabulary.{Reply, BLOCK_SLOTS, Event, Told, EffectKind, Replay, Peak, Begin, Step, Skipped, Ran}
use Rattle.queue_steps.specs.Sequential.{blocks_of}
pub use Rattle.queue_steps.specs.Next.{capacity_of}
use Rattle.machine_replay.specs.Book.{Book, Run, opening}

abbrev pub party_of : {T : Type 0} → Event T → ℕ
party_of (Begin p c) = p
party_of (Step p granted) = p

-- what an event adds to each list, with its number and its party
abbrev pub reply_entry : {T : Type 0} → ℕ → ℕ → Told T → List (ℕ × ℕ × Reply T)
reply_entry n p (Ran k (Some r)) = (n, p, r) ∷ []
reply_entry n p _ = []

abbrev pub effect_entry : {T : Type 0} → ℕ → ℕ → Told T → List (ℕ × ℕ × EffectKind)
effect_entry n p (Ran (Some k) r) = (n, p, k) ∷ []
effect_entry n p _ = []

abbrev pub skipped_entry : {T : Type 0} → ℕ → ℕ → Told T → List ℕ
skipped_entry n p Skipped = n ∷ []
skipped_entry n p (Ran k r) = []

-- the entries of all events in their order, numbered from n
abbrev pub entries_from : {T E : Type 0} → (ℕ → ℕ → Told T → List E) → ℕ → List (Event T) → List (Told T) → List E
entries_from entry n (e ∷ es) (t ∷ ts) = entry n (party_of e) t ++ entries_from entry (n + 1) es ts
entries_from entry n _ _ = []

-- the bound on the blocks of a queue: what its items fill, two, and one for each call in progress
abbrev pub share : {T : Type 0} → Book T → ℕ
share b = length b.queue.items / BLOCK_SLOTS + 2 + b.busy

-- the run comes by the book m
pub record ComesBy {T : Type 0} (cap : Option ℕ) (parties : ℕ) (events : List (Event T)) (told : List (Told T)) (m : Book T) : Type 0 where
  pub past : List (Event T)
  pub coming : List (Event T)
  pub told_past : List (Told T)
  pub told_coming : List (Told T)
  pub events_are : events ≡ past ++ coming
  pub told_are : told ≡ told_past ++ told_coming
  pub run : Run cap parties (opening cap) past told_past m

-- the greatest number of blocks is within its bound, which is that of a moment of the run, and is no less, at any moment, than the blocks from the first item's to the one where the next item goes
pub record IsPeak {T : Type 0} (cap : Option ℕ) (parties : ℕ) (events : List (Event T)) (told : List (Told T)) (peak : Peak) : Type 0 where
  pub within : peak.blocks ≤ peak.bound
  pub at : Book T
  pub comes_by : ComesBy cap parties events told at
  pub bound_is : peak.bound ≡ share at
  pub spans : (m : Book T) → ComesBy cap parties events told m → 0 < m.queue.accepted → blocks_of m.queue ≤ peak.blocks

-- What is told of each event leads from the empty open queue to a last book, one event after another; the lists are what
-- was told, in the order of the events; and what is left are the items of the last state. So the events and the lists fix all that is told.
pub record Conforms {T A : Type 0} (cap : Option ℕ) (parties : ℕ) (events : List (Event T)) (r : Replay T A) : Type 0 where
  pub told : List (Told T)
  pub last : Book T
  pub run : Run cap parties (opening cap) events told last
  pub replies : r.replies.items ≡ entries_from reply_entry 0 events told
  pub effects : r.effects.items ≡ entries_from effect_entry 0 events told
  pub skipped : r.skipped.items ≡ entries_from skipped_entry 0 events told
  pub left : r.left.items ≡ last.queue.items
  pub peak : IsPeak cap parties events told r.peak

-- a queue with a capacity holds no block
abbrev pub HasNoBlocks : Option ℕ → Peak → Type 0
HasNoBlocks None peak = Unit {0}
HasNoBlocks (Some c) peak = (peak.blocks ≡ 0) × (peak.bound ≡ 2)
