-- The text of a line of a replay.
use Rattle.std.specs.Prelude.{ℕ, List, ◌∷◌, ◌++◌, codes}
use Rattle.std.specs.Fmt.{decimal}
use Rattle.app_text.specs.{Reading.IsWord, Calls.call_text, Calls.IsCallOfWord, declared.actions.Action.Action, declared.actions.Action.Action as action, declared.actions.ReplayLine.ReplayLine}

abbrev pub action_text : Action → List ℕ
action_text (action.Call c) = call_text c
action_text action.Step = codes "step"
action_text action.Refuse = codes "refuse"
action_text action.Run = codes "run"

abbrev pub IsAction : Action → Type 0
IsAction (action.Call c) = IsCallOfWord c
IsAction _ = Unit {0}

-- the party's number, a space, and what the party does
abbrev pub replay_line_text : ReplayLine → List ℕ
replay_line_text l = decimal l.party ++ 32 ∷ action_text l.action

abbrev pub IsReplayLine : ReplayLine → Type 0
IsReplayLine l = IsWord l.party × IsAction l.action
