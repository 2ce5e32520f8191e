-- The history of calls that is recorded of a run of the machine, or of a replay, and that it is legal.
use Rattle.std.specs.Prelude.{◌≡◌, ℕ, ◌+◌, ◌==◌, Bool, false, if◌then◌else◌, Option, Some, None, List, [], ◌∷◌, ◌++◌}
use Rattle.machine_replay.specs.Vocabulary.{Kind, Reply, Event, Told, Replay, Begin, Step, Skipped, Ran}
use Rattle.machine_replay.specs.Book.{Book, Run, opening}
use Rattle.machine_replay.specs.Conforms.{Conforms, capacity_of}
use Rattle.machine_replay.specs.Played.{IsPlayed}
use Rattle.history_check.specs.declared.recorded.Event.{Event as Recorded}
use Rattle.history_check.specs.declared.recorded.Event.TheVariants as call
use Rattle.history_check.specs.Legal.{in_steps, IsLegal}

-- what is recorded of one event: the beginning of a call, and the reply that ends one. A call without steps begins and ends at once
abbrev pub entry : Event ℕ → Told ℕ → List Recorded
entry (Begin p c) (Ran k None) = call.Begin p c ∷ []
entry (Begin p c) (Ran k (Some r)) = call.Begin p c ∷ call.End p r ∷ []
entry (Step p granted) (Ran k (Some r)) = call.End p r ∷ []
entry _ _ = []

-- what is recorded of all events, in their order. Steps and effects are not
abbrev pub recorded : List (Event ℕ) → List (Told ℕ) → List Recorded
recorded (e ∷ es) (t ∷ ts) = entry e t ++ recorded es ts
recorded _ _ = []

-- the calls of each run, from the empty open queue on, are a legal history
abbrev pub RunsAreLegal : Type 0
RunsAreLegal = (cap : Option ℕ) (parties : ℕ) (events : List (Event ℕ)) (told : List (Told ℕ)) (last : Book ℕ) → Run cap parties (opening cap) events told last → IsLegal (in_steps cap) parties (recorded events told)

-- What the lists of a replay tell of the event n and those behind it: the reply of the event, and whether it was skipped, stand first, and then what is told of those behind it.
abbrev pub first_reply : ℕ → List (ℕ × ℕ × Reply ℕ) → Option (Reply ℕ)
first_reply n [] = None
first_reply n (y ∷ ys) = if y.0 == n then Some y.2 else None

abbrev pub later_replies : ℕ → List (ℕ × ℕ × Reply ℕ) → List (ℕ × ℕ × Reply ℕ)
later_replies n [] = []
later_replies n (y ∷ ys) = if y.0 == n then ys else y ∷ ys

abbrev pub is_skipped : ℕ → List ℕ → Bool
is_skipped n [] = false
is_skipped n (m ∷ ms) = m == n

abbrev pub later_skipped : ℕ → List ℕ → List ℕ
later_skipped n [] = []
later_skipped n (m ∷ ms) = if m == n then ms else m ∷ ms

-- what is told of the event n, without its effect
abbrev pub told_at : ℕ → List (ℕ × ℕ × Reply ℕ) → List ℕ → Told ℕ
told_at n replies skipped = if is_skipped n skipped then Skipped else Ran None (first_reply n replies)

-- what is recorded of these events, of which the first has the number n, by the lists of a replay
abbrev pub history_from : ℕ → List (Event ℕ) → List (ℕ × ℕ × Reply ℕ) → List ℕ → List Recorded
history_from n [] replies skipped = []
history_from n (e ∷ es) replies skipped = entry e (told_at n replies skipped) ++ history_from (n + 1) es (later_replies n replies) (later_skipped n skipped)

-- what is recorded of a replay of these events
abbrev pub history_of : {A : Type 0} → List (Event ℕ) → Replay ℕ A → List Recorded
history_of events r = history_from 0 events r.replies.items r.skipped.items

-- the history is what is recorded of a replay of these events on a queue of this kind: of one that is what the machine makes of them
pub record IsRecordOf (A : Type 0) (kind : Kind) (parties : ℕ) (events : List (Event ℕ)) (history : List Recorded) : Type 0 where
  pub replay : Replay ℕ A
  pub played : IsPlayed kind parties events replay
  pub conforms : Conforms (capacity_of kind) parties events replay
  pub is_record : history ≡ history_of events replay

-- the calls of each replay that conforms are a legal history
abbrev pub ReplaysAreLegal : Type 0 → Type 0
ReplaysAreLegal A = (cap : Option ℕ) (parties : ℕ) (events : List (Event ℕ)) (r : Replay ℕ A) → Conforms cap parties events r → IsLegal (in_steps cap) parties (history_of events r)
