-- The greatest number of blocks of a replay, told from its lists and its history.
use Rattle.std.specs.Prelude.{◌≡◌, ℕ, ◌+◌, ◌-◌, ◌/◌, ◌<◌, ◌≤◌, nat_lt, Option, List, length, filter, take}
use Rattle.machine_replay.specs.{Vocabulary.Reply, Vocabulary.BLOCK_SLOTS, Vocabulary.Event, Vocabulary.Replay, Conforms.Conforms, Meaning.Entry, Meaning.HasHistory, OneOwner.calls_from}
use Rattle.queue_steps.specs.Sequential.{blocks_of}
pub use Rattle.queue_laws.specs.Moment.Entries.{state_before}

-- how many replies stand before the event n
abbrev pub replies_before : {T : Type 0} → ℕ → List (ℕ × ℕ × Reply T) → ℕ
replies_before n replies = length (filter (λ y. nat_lt y.0 n) replies)

-- how many calls are in progress before the event n: those that were begun, but for those that have a reply
abbrev pub in_progress : {T : Type 0} → List (Event T) → List ℕ → List (ℕ × ℕ × Reply T) → ℕ → ℕ
in_progress events skipped replies n = length (calls_from 0 skipped (take n events)) - replies_before n replies

-- The greatest number of blocks is within its bound, which is what the items fill at a moment of the run, two, and one for each call in progress then; and it is no less,
-- at any moment, than the blocks from the first item's to the one where the next item goes
pub record HasPeak {T A : Type 0} (cap : Option ℕ) (events : List (Event T)) (r : Replay T A) (H : List (Entry T)) : Type 0 where
  pub within : r.peak.blocks ≤ r.peak.bound
  pub at : ℕ
  pub upto : at ≤ length events
  pub bound_is : r.peak.bound ≡ length (state_before cap H at).items / BLOCK_SLOTS + 2 + in_progress events r.skipped.items r.replies.items at
  pub spans : (n : ℕ) → n ≤ length events → 0 < (state_before cap H n).accepted → blocks_of (state_before cap H n) ≤ r.peak.blocks

-- every replay that conforms has such a peak, by each of its histories
abbrev pub PeakIsOfTheRun : Type 0 → Type 0 → Type 0
PeakIsOfTheRun T A = (cap : Option ℕ) (parties : ℕ) (events : List (Event T)) (r : Replay T A) → Conforms cap parties events r → (h : HasHistory cap events r) → HasPeak cap events r h.history
