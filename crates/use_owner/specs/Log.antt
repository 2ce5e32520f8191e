-- A log, as contracts see it.
use Rattle.std.specs.Prelude.{◌≡◌, ℕ, ◌+◌, ◌-◌, List, [], ◌∷◌, ◌++◌, length, drop, Option, Some, None}
use Rattle.std.specs.Option.{option_to_list}

-- how many entries it holds at most, those that it holds, the oldest first, and how many were ever appended
pub record Held (T : Type 0) : Type 0 where
  pub capacity : ℕ
  pub entries : List T
  pub appended : ℕ

-- the last k of a list, or all of it
abbrev pub newest : {T : Type 0} → ℕ → List T → List T
newest k xs = drop (length xs - k) xs

-- the log has the entries behind its own, and holds the newest
abbrev pub with_all : {T : Type 0} → Held T → List T → Held T
with_all log xs = record log { entries = newest log.capacity (log.entries ++ xs); appended = log.appended + length xs }

-- the entry is appended. What gave way, and behind it what is held, are what was held, and behind it the entry
abbrev pub Appends : {T : Type 0} → Held T → T → Option T → Held T → Type 0
Appends old entry gone new = (new ≡ with_all old (entry ∷ [])) × (option_to_list gone ++ new.entries ≡ old.entries ++ entry ∷ [])

-- the oldest entry is taken out, or there is none
abbrev pub TakesOldest : {T : Type 0} → Held T → Option T → Held T → Type 0
TakesOldest old None new = (old.entries ≡ []) × (new ≡ old)
TakesOldest old (Some entry) new = old ≡ record new { entries = entry ∷ new.entries }
