-- The lines of a replay that make a schedule happen.
use Rattle.std.specs.Prelude.{◌≡◌, ◌≤◌, map, replicate, ℕ, zero, suc, ◌+◌, ◌-◌, ◌==◌, Some, nat_lt, if◌then◌else◌, Bool, true, false, List, [], ◌∷◌, ◌++◌, flat_map}
use Rattle.queue_steps.specs.declared.{sizes.TheConstants.STEPS_ALONE, model.Call.Call}
use Rattle.machine_memory.specs.declared.types.{Event.Event, Event.TheVariants.Begin, Event.TheVariants.Step, Told.Told, Told.TheVariants.Ran}
pub use Rattle.machine_replay.specs.Conforms.{party_of}
use Rattle.app_text.specs.{Actions.replay_line_text, declared.actions.Action.Action, declared.actions.Action.Action as action, declared.actions.ReplayLine.ReplayLine}
use Rattle.machine_explore.specs.Traces.{Seen}

-- lines, each with its end
abbrev pub lines_text : List ReplayLine → List ℕ
lines_text lines = flat_map (λ l. replay_line_text l ++ 10 ∷ []) lines

-- each call is begun by party 0, and run
abbrev pub before_lines : List (Call ℕ) → List ReplayLine
before_lines calls = flat_map (λ c. record { party = 0; action = action.Call c } ∷ record { party = 0; action = action.Run } ∷ []) calls

-- whether this tells the end of a call
abbrev pub ends_call : {T : Type 0} → Told T → Bool
ends_call (Ran k (Some r)) = true
ends_call t = false

-- whether the event is a step of this party at which requests are granted
abbrev pub is_step_of : ℕ → Event ℕ → Bool
is_step_of p (Step q true) = q == p
is_step_of p _ = false

-- behind k steps of the party p, up to which of its steps its call goes on; 0 where something else comes before its end
abbrev pub row_length : ℕ → ℕ → List Seen → ℕ
row_length k p [] = 0
row_length k p (t ∷ ts) = if is_step_of p t.event then (if ends_call t.told then k + 1 else row_length (k + 1) p ts) else 0

-- the line of one event
abbrev pub plain_line : Event ℕ → ReplayLine
plain_line (Begin p c) = record { party = p; action = action.Call c }
plain_line (Step p true) = record { party = p; action = action.Step }
plain_line (Step p false) = record { party = p; action = action.Refuse }

-- two steps or more that end a call, and no more than a run takes
abbrev pub is_run : ℕ → Bool
is_run n = if nat_lt n 2 then false else nat_lt n (STEPS_ALONE + 1)

-- the first line of moves, which begin with this event and with a row of this length
abbrev pub first_line : Event ℕ → ℕ → ReplayLine
first_line e n = if is_run n then record { party = party_of e; action = action.Run } else plain_line e

-- how many moves behind the first that line is for
abbrev pub more_moves : ℕ → ℕ
more_moves n = if is_run n then n - 1 else 0

-- the lines of moves, of which the first k are in a line before
abbrev pub move_lines : ℕ → List Seen → List ReplayLine
move_lines k [] = []
move_lines (suc k) (t ∷ ts) = move_lines k ts
move_lines zero (t ∷ ts) = first_line t.event (row_length 0 (party_of t.event) (t ∷ ts)) ∷ move_lines (more_moves (row_length 0 (party_of t.event) (t ∷ ts))) ts

-- the text of the lines of a schedule
abbrev pub schedule_text : List (Call ℕ) → List Seen → List ℕ
schedule_text before moves = lines_text (before_lines before ++ move_lines 0 moves)

-- these moves are n steps of the party p, of which the last alone ends its call
pub record IsRow (p n : ℕ) (moves : List Seen) : Type 0 where
  pub others : ℕ
  pub count : n ≡ others + 1
  pub steps : map (λ t. t.event) moves ≡ replicate n (Step p true)
  pub ends : map (λ t. ends_call t.told) moves ≡ replicate others false ++ true ∷ []

-- where the party p does this, these moves are made
abbrev pub Makes : ℕ → Action → List Seen → Type 0
Makes p (action.Call c) moves = map (λ t. t.event) moves ≡ Begin p c ∷ []
Makes p action.Step moves = map (λ t. t.event) moves ≡ Step p true ∷ []
Makes p action.Refuse moves = map (λ t. t.event) moves ≡ Step p false ∷ []
Makes p action.Run moves = (n : ℕ) × (2 ≤ n) × (n ≤ STEPS_ALONE) × IsRow p n moves

-- the lines make these moves, one line after another
abbrev pub MakeAll : List ReplayLine → List Seen → Type 0
MakeAll [] moves = moves ≡ []
MakeAll (l ∷ ls) moves = (now : List Seen) × (later : List Seen) × (moves ≡ now ++ later) × Makes l.party l.action now × MakeAll ls later
