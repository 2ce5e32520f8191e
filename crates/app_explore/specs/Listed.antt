-- What has a line in a list, with its text.
use Rattle.std.specs.Prelude.{◌≡◌, ℕ, List, map, string_bytes, IsPermutation}
use Rattle.std.specs.List.{All}
use Rattle.machine_explore.specs.{declared.schedule.Move.Move, declared.shown.ShownOutcome.ShownOutcome, declared.waiting.Wait.Wait, Positions.Outcome, Waiting.Waiting, Waiting.wait_of}
use Rattle.app_explore.specs.{Outcomes.AreInOrder, Tails.Tail, Tails.figure_tail, declared.listed.Listed.Listed}

abbrev pub item_of : {X A : Type 0} → Listed X A → X
item_of l = l.item

abbrev pub bytes_of : {X A : Type 0} → Listed X A → List ℕ
bytes_of l = string_bytes l.text

-- its text is that of the item
abbrev pub HasText : {X A : Type 0} → (X → List ℕ) → Listed X A → Type 0
HasText text_of l = string_bytes l.text ≡ text_of l.item

-- these are the items, each with its text, in the order of the texts, each once
pub record AreListed {X A : Type 0} (text_of : X → List ℕ) (items : List X) (all : List (Listed X A)) : Type 0 where
  pub same : IsPermutation items (map item_of all)
  pub texts : All (HasText text_of) all
  pub in_order : AreInOrder (map bytes_of all)

-- the outcome that is listed, and the schedule that shows it
abbrev pub listed_outcome : {A : Type 0} → Listed (ShownOutcome A) A → Outcome ℕ
listed_outcome l = l.item.outcome

abbrev pub listed_schedule : {A : Type 0} → Listed (ShownOutcome A) A → List Move
listed_schedule l = l.item.schedule

-- what is told of the outcome behind its text
abbrev pub listed_tail : {A : Type 0} → Listed (ShownOutcome A) A → Tail
listed_tail l = figure_tail l.item.figure

-- the wait that is listed
abbrev pub listed_wait : {A : Type 0} → Listed (Wait A) A → Waiting
listed_wait l = wait_of l.item
