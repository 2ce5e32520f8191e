-- What a replay says where the allocator refused nothing.
use Rattle.std.specs.Prelude.{◌≡◌, ℕ, true, false, Some, List, slice_get}
use Rattle.std.specs.List.{AllByRecursion}
use Rattle.machine_replay.specs.{Conforms.entries_from, Conforms.reply_entry, Conforms.effect_entry, Conforms.skipped_entry, Peaks.peak_of, Played.IsPlayed, Played.is_no_memory, Played.told_of, Played.world_after}
use Rattle.machine_replay.specs.Vocabulary.{Reply, Kind, Event, Replay, Step}
use Rattle.machine_steps.specs.Left.{left_of, opening_world}

-- if the reply is of want of memory, it is to a step that its event refuses
abbrev pub IsAsRefused : {T : Type 0} → List (Event T) → ℕ × ℕ × Reply T → Type 0
IsAsRefused events y = is_no_memory y.2 ≡ true → slice_get events y.0 ≡ Some (Step y.1 false)

-- so are all replies: the allocator refused nothing
abbrev pub IsServed : {T A : Type 0} → List (Event T) → Replay T A → Type 0
IsServed events r = AllByRecursion (IsAsRefused events) r.replies.items

-- the lists, what is left and the peak are what these events make, where each request is granted that none of them refuses
pub record IsExactly {T A : Type 0} (k : Kind) (parties : ℕ) (events : List (Event T)) (r : Replay T A) : Type 0 where
  pub replies : r.replies.items ≡ entries_from reply_entry 0 events (told_of k (opening_world k parties) events)
  pub effects : r.effects.items ≡ entries_from effect_entry 0 events (told_of k (opening_world k parties) events)
  pub skipped : r.skipped.items ≡ entries_from skipped_entry 0 events (told_of k (opening_world k parties) events)
  pub left : r.left.items ≡ left_of k (world_after k (opening_world k parties) events)
  pub peak : r.peak ≡ peak_of k parties events

-- so it is of every such replay
abbrev pub ServedIsExact : Type 0 → Type 0 → Type 0
ServedIsExact T A = (k : Kind) (parties : ℕ) (events : List (Event T)) (r : Replay T A) → IsPlayed k parties events r → IsServed events r → IsExactly k parties events r
