-- With one party the machine is a queue with one owner.
use Rattle.std.specs.Prelude.{◌≡◌, ℕ, ◌+◌, ◌==◌, Bool, if◌then◌else◌, Option, None, List, [], ◌∷◌, ◌++◌, map}
use Rattle.std.specs.{List.list_any, Option.option_to_list}
use Rattle.queue_steps.specs.{Legal.IsShown, Sequential.Owned, Sequential.fresh, Sequential.SequentialRun}
use Rattle.machine_replay.specs.{Vocabulary.Call, Vocabulary.Reply, Vocabulary.Event, Vocabulary.Told, Vocabulary.Replay, Vocabulary.Begin, Vocabulary.Step, Vocabulary.Ran, Conforms.Conforms}

-- the calls that were begun, in their order
abbrev pub begun_calls : {T : Type 0} → List (Event T) → List (Told T) → List (Call T)
begun_calls (Begin p c ∷ es) (Ran k r ∷ ts) = c ∷ begun_calls es ts
begun_calls (_ ∷ es) (_ ∷ ts) = begun_calls es ts
begun_calls _ _ = []

abbrev pub reply_in : {T : Type 0} → ℕ × ℕ × Reply T → Reply T
reply_in x = x.2

-- The replies are those of a run of the one-owner table over the calls in the order of their beginnings; at most the last call has none,
-- and where each has ended, the run ends at the state at which the machine ends.
pub record IsSequentialRun {T A : Type 0} (cap : Option ℕ) (events : List (Event T)) (r : Replay T A) : Type 0 where
  pub conforms : Conforms cap 1 events r
  pub calls : List (Call T)
  pub pending : Option (Call T)
  pub begun : begun_calls events conforms.told ≡ calls ++ option_to_list pending
  pub last : Owned T
  pub run : SequentialRun (fresh cap) calls (map reply_in r.replies.items) last
  pub shown : pending ≡ None → IsShown last.queue conforms.last.queue

-- the number is one of these
abbrev pub is_among : ℕ → List ℕ → Bool
is_among n ms = list_any (λ m. m == n) ms

-- the calls that these events begin, of which the first has the number n, but for those of skipped events
abbrev pub calls_from : {T : Type 0} → ℕ → List ℕ → List (Event T) → List (Call T)
calls_from n skipped [] = []
calls_from n skipped (Begin p c ∷ es) = if is_among n skipped then calls_from (n + 1) skipped es else c ∷ calls_from (n + 1) skipped es
calls_from n skipped (Step p granted ∷ es) = calls_from (n + 1) skipped es

-- The same, told from the lists of a replay alone: the replies are those of a run of the one-owner table over the calls that were begun, in their order; at most the last call has none;
-- and where each has ended, what is left are the items at which the run ends.
pub record IsOwnersReplay {T A : Type 0} (cap : Option ℕ) (events : List (Event T)) (r : Replay T A) : Type 0 where
  pub calls : List (Call T)
  pub pending : Option (Call T)
  pub begun : calls_from 0 r.skipped.items events ≡ calls ++ option_to_list pending
  pub last : Owned T
  pub run : SequentialRun (fresh cap) calls (map reply_in r.replies.items) last
  pub left : pending ≡ None → r.left.items ≡ last.queue.items

-- every replay of one party that conforms is so
abbrev pub OnePartyIsOneOwner : Type 0 → Type 0 → Type 0
OnePartyIsOneOwner T A = (cap : Option ℕ) (events : List (Event T)) (r : Replay T A) → Conforms cap 1 events r → IsOwnersReplay cap events r
