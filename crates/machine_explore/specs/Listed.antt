-- A replay of a run of a program ends with an outcome that is on the list.
use Rattle.std.specs.Prelude.{ℕ, ◌==◌, ◌&&◌, nat_lt, Bool, not, if◌then◌else◌, List, [], ◌∷◌, ◌++◌, length, map, Contains}
use Rattle.std.specs.List.{range_with_len}
use Rattle.queue_steps.specs.declared.{model.Call.Call, model.Reply.Reply, steps.types.Kind.Kind}
use Rattle.machine_memory.specs.declared.types.{Event.Event, Replay.Replay}
use Rattle.machine_replay.specs.{Played.IsPlayed, Served.IsServed}
use Rattle.machine_explore.specs.{Explored.HasNoOther, Explored.IsRunOf, Positions.Outcome}

-- the replies to party p among these, from the event n on
abbrev pub replies_from : {T : Type 0} → ℕ → ℕ → List (ℕ × ℕ × Reply T) → List (Reply T)
replies_from n p [] = []
replies_from n p (y ∷ ys) = (if not (nat_lt y.0 n) && (y.1 == p) then y.2 ∷ [] else []) ++ replies_from n p ys

-- what a replay of so many parties ends with: the replies by party from the event n on, and what is left
abbrev pub outcome_from : {A : Type 0} → ℕ → ℕ → Replay ℕ A → Outcome ℕ
outcome_from n parties r = record { replies = map (λ p. replies_from n p r.replies.items) (range_with_len 0 parties); left = r.left.items }

-- If a program has no outcome but these, a replay of one of its runs ends with one of them, where the allocator refused nothing
abbrev pub ReplaysAreListed : Type 0 → Type 0
ReplaysAreListed A = (k : Kind) (refuses : Bool) (before : List (Call ℕ)) (calls : List (List (Call ℕ))) (outcomes : List (Outcome ℕ)) (first rest : List (Event ℕ)) (r : Replay ℕ A)
    → HasNoOther k refuses before calls outcomes → IsRunOf k refuses before calls first rest → IsPlayed k (length calls) (first ++ rest) r → IsServed (first ++ rest) r
    → Contains outcomes (outcome_from (length first) (length calls) r)
