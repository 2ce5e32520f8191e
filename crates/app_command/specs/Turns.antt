-- What the lines of a replay ask of the parties, turn by turn, and what is printed of it. A turn is what one line asks of one party, with the number of that line.
use Rattle.std.specs.Prelude.{ℕ, ◌+◌, true, false, Option, Some, None, List, [], ◌∷◌, ◌++◌, map, replicate, codes}
use Rattle.std.specs.Fmt.{decimal}
use Rattle.queue_steps.specs.declared.{sizes.TheConstants.STEPS_ALONE, model.Reply.Reply}
use Rattle.machine_memory.specs.declared.types.{Event.Event, Event.TheVariants.Begin, Event.TheVariants.Step, EffectKind.EffectKind, Told.Told, Told.TheVariants.Skipped, Told.TheVariants.Ran}
use Rattle.app_text.specs.{Replies.reply_text, declared.actions.Action.Action, declared.actions.Action.Action as action, declared.actions.ReplayLine.ReplayLine, Effects.effect_text}
use Rattle.app_command.specs.declared.turns.Turn.{Turn}

abbrev pub event_by : ℕ → Action → Event ℕ
event_by party (action.Call c) = Begin party c
event_by party action.Step = Step party true
event_by party action.Refuse = Step party false
event_by party action.Run = Step party true

-- the event that a line makes happen
abbrev pub event_of : ReplayLine → Event ℕ
event_of l = event_by l.party l.action

-- how often it makes it happen
abbrev pub turn_count : Action → ℕ
turn_count action.Run = STEPS_ALONE
turn_count _ = 1

-- the turns of these lines, of which the first has the number n
abbrev pub turns_from : ℕ → List ReplayLine → List Turn
turns_from n [] = []
turns_from n (l ∷ ls) = replicate (turn_count l.action) (record { line = n; said = l }) ++ turns_from (n + 1) ls

-- the event of a turn
abbrev pub turn_event : Turn → Event ℕ
turn_event t = event_of t.said

-- the events that these lines make happen, in their order
abbrev pub events_of : List ReplayLine → List (Event ℕ)
events_of ls = map turn_event (turns_from 1 ls)

-- the turn's line number and its party, a text behind them, and the end of the line
abbrev pub turn_line : Turn → List ℕ → List ℕ
turn_line t text = decimal t.line ++ 32 ∷ decimal t.said.party ++ 32 ∷ text ++ 10 ∷ []

-- nothing is printed of a step of `run` that was skipped
abbrev pub skip_text : Turn → Action → List ℕ
skip_text t action.Run = []
skip_text t _ = turn_line t (codes "skipped")

abbrev pub effect_line : Turn → Option EffectKind → List ℕ
effect_line t None = []
effect_line t (Some k) = turn_line t (effect_text k)

abbrev pub reply_line : Turn → Option (Reply ℕ) → List ℕ
reply_line t None = []
reply_line t (Some r) = turn_line t (reply_text r)

-- what is printed of a turn: that it was skipped, or its effect and then the reply
abbrev pub turn_text : Turn → Told ℕ → List ℕ
turn_text t Skipped = skip_text t t.said.action
turn_text t (Ran k r) = effect_line t k ++ reply_line t r

-- what is printed of all turns
abbrev pub turns_text : List Turn → List (Told ℕ) → List ℕ
turns_text (t ∷ ts) (x ∷ xs) = turn_text t x ++ turns_text ts xs
turns_text _ _ = []
