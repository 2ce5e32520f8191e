-- What a replay prints.
use Rattle.std.specs.Prelude.{◌≡◌, ℕ, ◌≤◌, List, [], ◌∷◌, ◌++◌, codes}
use Rattle.std.specs.{Option.IfSome, Fmt.decimal}
use Rattle.queue_steps.specs.declared.sizes.TheConstants.{MAX_CAPACITY}
use Rattle.machine_replay.specs.{Book.Book, Book.Run, Book.opening, Conforms.IsPeak, Peaks.peak_of, Played.IsMade, Played.as_told}
use Rattle.machine_memory.specs.declared.types.{Peak.Peak, Told.Told}
use Rattle.app_text.specs.{KindNames.capacity_of, KindNames.queue_named, declared.actions.ReplayLine.ReplayLine, declared.args.KindName.KindName, declared.args.KindName.KindName as kind}
use Rattle.app_command.specs.{Left.left_text, Turns.turns_from, Turns.events_of, Turns.turns_text}

-- the line of the greatest number of blocks and its bound, which a queue without a capacity alone has
abbrev pub peak_text : KindName → Peak → List ℕ
peak_text kind.Unbounded p = codes "blocks " ++ decimal p.blocks ++ codes " of " ++ decimal p.bound ++ 10 ∷ []
peak_text _ p = []

-- What is told of each event that the lines make happen is what the machine makes of it, from the empty open queue of this kind that so many parties share. It conforms, and
-- so does the peak, which is the machine's; and the text is what is told, the line of the peak, and the line of what is left.
pub record IsReport (k : KindName) (parties : ℕ) (lines : List ReplayLine) (text : List ℕ) : Type 0 where
  pub within : IfSome (capacity_of k) (λ size. size ≤ MAX_CAPACITY)
  pub told : List (Told ℕ)
  pub made : IsMade (queue_named k) parties (events_of lines) told
  pub last : Book ℕ
  pub run : Run (capacity_of k) parties (opening (capacity_of k)) (events_of lines) told last
  pub peak : Peak
  pub is_peak : IsPeak (capacity_of k) parties (events_of lines) told peak
  pub peak_is : peak ≡ peak_of (queue_named k) parties (as_told (events_of lines) told)
  pub written : text ≡ (turns_text (turns_from 1 lines) told ++ peak_text k peak) ++ left_text last.queue.items
