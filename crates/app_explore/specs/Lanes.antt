-- A schedule as a picture: a column for each party, a row for each of its moves, and the list beside it.
use Rattle.std.specs.Prelude.{ℕ, ◌-◌, ◌==◌, nat_lt, true, false, if◌then◌else◌, Option, Some, None, List, [], ◌∷◌, ◌++◌, codes, flat_map, length, map, replicate}
use Rattle.std.specs.{Fmt.decimal, List.range_with_len}
use Rattle.queue_steps.specs.declared.steps.types.Local.{Local}
use Rattle.machine_replay.specs.Conforms.{party_of}
use Rattle.machine_memory.specs.{declared.types.Event.Event, declared.types.Event.TheVariants.Begin, declared.types.Event.TheVariants.Step, declared.types.Told.Told, declared.types.Told.TheVariants.Skipped, declared.types.Told.TheVariants.Ran, Places.label_text}
use Rattle.machine_explore.specs.Traces.{Seen}
use Rattle.app_text.specs.{Calls.call_text, Effects.effect_text, Items.items_text, Replies.reply_text}

-- what the party does: the call that it begins, or the label of its step, and whether the step's request is refused
abbrev pub move_text : Event ℕ → Option (Local ℕ) → List ℕ
move_text (Begin p c) l = call_text c
move_text (Step p true) l = label_text l
move_text (Step p false) l = label_text l ++ codes " refused"

-- what that did to the list, and the reply that ended the call there
abbrev pub told_text : Told ℕ → List ℕ
told_text Skipped = []
told_text (Ran None None) = []
told_text (Ran None (Some r)) = codes " = " ++ reply_text r
told_text (Ran (Some k) None) = codes " " ++ effect_text k
told_text (Ran (Some k) (Some r)) = codes " " ++ effect_text k ++ codes " = " ++ reply_text r

abbrev pub cell_text : Seen → List ℕ
cell_text s = move_text s.event s.local ++ told_text s.told

-- the length of the longest of these texts, or n where that is longer
abbrev pub widest : ℕ → List (List ℕ) → ℕ
widest n [] = n
widest n (text ∷ texts) = widest (if nat_lt n (length text) then length text else n) texts

-- a column with this text in it
abbrev pub column : ℕ → List ℕ → List ℕ
column width text = codes "| " ++ text ++ replicate (width - length text) 32 ++ codes " "

-- the columns of so many parties, each with the text that it has
abbrev pub columns : ℕ → ℕ → (ℕ → List ℕ) → List ℕ
columns parties width text_of = flat_map (λ p. column width (text_of p)) (range_with_len 0 parties)

-- the row of one party's cell, and the list behind it
abbrev pub row_text : ℕ → ℕ → ℕ → List ℕ → List ℕ → List ℕ
row_text parties width p cell list = columns parties width (λ q. if q == p then cell else []) ++ codes "|" ++ items_text list ++ 10 ∷ []

-- the numbers of the parties
abbrev pub head_text : ℕ → ℕ → List ℕ
head_text parties width = columns parties width decimal ++ codes "| list" ++ 10 ∷ []

-- the rows of what was seen
abbrev pub rows_text : ℕ → ℕ → List Seen → List ℕ
rows_text parties width seen = flat_map (λ s. row_text parties width (party_of s.event) (cell_text s) s.list) seen

-- the whole picture. All columns are as wide as the widest cell
abbrev pub lanes_text : ℕ → List ℕ → List Seen → List ℕ
lanes_text parties opening seen =
    let width : ℕ = widest 1 (map cell_text seen) in
    head_text parties width ++ row_text parties width 0 [] opening ++ rows_text parties width seen
