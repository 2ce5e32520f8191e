-- What a conforming replay means for all calls but three: a history in which each displacement is one moment.
use Rattle.std.specs.Prelude.{◌≡◌, ◌⊎◌, ℕ, ◌+◌, ◌<◌, ◌≤◌, ◌==◌, ◌&&◌, nat_lt, Bool, Option, Some, None, List, [], length, AllPairs}
use Rattle.std.specs.List.{AllByRecursion}
use Rattle.queue_steps.specs.{State.State, Effect.after}
use Rattle.machine_replay.specs.{Vocabulary.Reply, Vocabulary.Event, Vocabulary.Replay, Book.Allows, Book.IsBegun, Conforms.Conforms, InCall.IsStepOf, InCall.IsInCall}
use Rattle.machine_replay.specs.Meaning.{Entry, effects_in, state_after, own_effects, IsMoment, EndsCall, IsAnswer, HasHistory}
use Rattle.queue_laws.specs.Moment.{Moments.IsAtOnce, Moments.IsGlance, Moments.arrived, Moments.settled, Entries.settle, Shared.StandsTogether}

-- an effect stands between two steps of the call that its party is in
pub record IsWithinCall {T : Type 0} (events : List (Event T)) (skipped : List ℕ) (replies : List (ℕ × ℕ × Reply T)) (x : Entry T) : Type 0 where
  pub from : ℕ
  pub upto : ℕ
  pub starts : IsStepOf events skipped x.party from
  pub ends : IsStepOf events skipped x.party upto
  pub in_call : IsInCall events skipped replies x.party upto
  pub later : in_call.first < from
  pub before : from ≤ x.event
  pub until : x.event ≤ upto

-- the reply y is that of a glance, right at a moment of its call at which an item was on its way in
pub record IsGlanced {T : Type 0} (cap : Option ℕ) (events : List (Event T)) (skipped : List ℕ) (H : List (Entry T)) (replies : List (ℕ × ℕ × Reply T)) (y : ℕ × ℕ × Reply T) : Type 0 where
  pub step : IsStepOf events skipped y.1 y.0
  pub in_call : IsInCall events skipped replies y.1 y.0
  pub glance : IsGlance in_call.call
  pub moment : State T
  pub is_moment : IsMoment cap events skipped H y.1 in_call.first (y.0 + 1) moment
  pub coming : T
  pub is_coming : moment.coming ≡ Some coming
  pub right : Allows in_call.call y.2 moment

-- whether an effect of the party q at the event n is one of a call of the party p, after the event `first` and up to the event `last`
abbrev pub is_of_call : ℕ → ℕ → ℕ → ℕ → ℕ → Bool
is_of_call p first last q n = (q == p) && (nat_lt first n && nat_lt n (last + 1))

-- the call that the reply y ends has the same effects in S as in H, and in S they are in a row, with nothing between
abbrev pub IsWhole : {T : Type 0} → Option ℕ → List (Event T) → List ℕ → List (ℕ × ℕ × Reply T) → List (Entry T) → List (Entry T) → ℕ × ℕ × Reply T → Type 0
IsWhole cap events skipped replies H S y =
    (ends : EndsCall cap events skipped H replies y.0 y.1 y.2) → (own_effects y.1 ends.in_call.first y.0 S ≡ own_effects y.1 ends.in_call.first y.0 H)
    × StandsTogether S (is_of_call y.1 ends.in_call.first y.0) (ends.in_call.first + 1) (y.0 + 1) (own_effects y.1 ends.in_call.first y.0 H)

-- The history S, in which each displacement is one moment, is one of the same run as H: its effects are what those of H settle into, and it leaves what H leaves, once all has arrived; each effect stands
-- between two steps of the call that its party is in; each call that has ended has the same effects as in H, with nothing between them; each reply
-- ends its call in S as it does in H, or is that of a glance at the middle of a displacement; each call that has not ended has a beginning of its effects in S.
pub record HasMoments {T A : Type 0} (cap : Option ℕ) (events : List (Event T)) (r : Replay T A) (H S : List (Entry T)) : Type 0 where
  pub legal : IsAtOnce cap (effects_in S)
  pub effects : effects_in S ≡ settled (effects_in H) []
  pub calm : (n : ℕ) → (state_after cap S n).coming ≡ None
  pub in_order : AllPairs (λ x y. x.event ≤ y.event) S
  pub left : after cap (effects_in S) ≡ arrived (after cap (effects_in H))
  pub own : AllByRecursion (IsWithinCall events r.skipped.items r.replies.items) S
  pub whole : AllByRecursion (IsWhole cap events r.skipped.items r.replies.items H S) r.replies.items
  pub answers : AllByRecursion (λ y. IsAnswer cap events r.skipped.items S r.replies.items y ⊎ IsGlanced cap events r.skipped.items H r.replies.items y) r.replies.items
  pub unended : (p : ℕ) (c : IsInCall events r.skipped.items r.replies.items p (length events)) → IsBegun c.call (own_effects p c.first (length events) S)

-- the history of a replay that conforms settles into one of moments
abbrev pub RunsDisplaceAtOnce : Type 0 → Type 0 → Type 0
RunsDisplaceAtOnce T A = (cap : Option ℕ) (parties : ℕ) (events : List (Event T)) (r : Replay T A) → Conforms cap parties events r → (h : HasHistory cap events r) → HasMoments cap events r h.history (settle h.history)
