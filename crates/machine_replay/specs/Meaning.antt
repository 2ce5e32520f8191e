-- What a conforming replay means: one legal history, in which every finished call stands between its own first and last step.
use Rattle.std.specs.Prelude.{◌≡◌, ◌⊎◌, ℕ, ◌+◌, ◌<◌, ◌≤◌, ◌==◌, ◌&&◌, nat_lt, false, Option, Some, None, List, [], ◌∷◌, length, AllPairs}
use Rattle.std.specs.List.{AllByRecursion}
use Rattle.queue_steps.specs.{State.State, Effect.IsHistory, Effect.after, Replies.IsRightAt, Replies.Tells}
use Rattle.machine_replay.specs.{Book.Allows, Book.IsBegun, Book.has_steps, Book.kind_of, Conforms.Conforms, InCall.HasRun, InCall.IsStepOf, InCall.IsUnanswered, InCall.IsInCall}
use Rattle.machine_replay.specs.Vocabulary.{Call, Reply, Effect, Event, EffectKind, Replay, Begin}
pub use Rattle.queue_laws.specs.Moment.Entries.{Entry, chosen, effects_in}

-- the entries without the values of their effects
abbrev pub kinds_in : {T : Type 0} → List (Entry T) → List (ℕ × ℕ × EffectKind)
kinds_in [] = []
kinds_in (x ∷ xs) = (x.event, x.party, kind_of x.effect) ∷ kinds_in xs

-- the state of the queue after the event of this number
abbrev pub state_after : {T : Type 0} → Option ℕ → List (Entry T) → ℕ → State T
state_after cap H n = after cap (chosen (λ x. nat_lt x.event (n + 1)) H)

-- the effects of party p after the event `first`, up to the event `last`
abbrev pub own_effects : {T : Type 0} → ℕ → ℕ → ℕ → List (Entry T) → List (Effect T)
own_effects p first last H = chosen (λ x. (x.party == p) && (nat_lt first x.event && nat_lt x.event (last + 1))) H

-- Before the event `end`, a moment of a call of party p that began at the event `first`: the state Q after the event `at`, which is no earlier than some step of the call
pub record IsMoment {T : Type 0} (cap : Option ℕ) (events : List (Event T)) (skipped : List ℕ) (H : List (Entry T)) (p first end : ℕ) (Q : State T) : Type 0 where
  pub step : ℕ
  pub at : ℕ
  pub own : IsStepOf events skipped p step
  pub later : first < step
  pub from : step ≤ at
  pub upto : at < end
  pub state : Q ≡ state_after cap H at

-- before the event `end`, a call of party p that began at the event `first` saw the queue open, after a step of its own
pub record SawOpen {T : Type 0} (cap : Option ℕ) (events : List (Event T)) (skipped : List ℕ) (H : List (Entry T)) (p first end : ℕ) : Type 0 where
  pub step : ℕ
  pub own : IsStepOf events skipped p step
  pub later : first < step
  pub upto : step < end
  pub was_open : (state_after cap H step).closed ≡ false

-- An effect stands at a step of the call that its party is in; where it is a front, the call had seen the queue open at a step before.
pub record IsOwn {T : Type 0} (cap : Option ℕ) (events : List (Event T)) (skipped : List ℕ) (H : List (Entry T)) (replies : List (ℕ × ℕ × Reply T)) (x : Entry T) : Type 0 where
  pub step : IsStepOf events skipped x.party x.event
  pub in_call : IsInCall events skipped replies x.party x.event
  pub saw_open : (old v : T) → x.effect ≡ Effect.Front old v → SawOpen cap events skipped H x.party in_call.first x.event

-- the front whose item is on its way in after the entry x, of this effect, if it was that of f before
abbrev pub displacing : {T : Type 0} → Option (Entry T) → Entry T → Effect T → Option (Entry T)
displacing f x (Effect.Front old v) = Some x
displacing f x Effect.Arrive = None
displacing f x _ = f

-- there is such a front, and the entry x is of the same call: of the same party, which has no reply between the two
abbrev pub IsOfItsFront : {T : Type 0} → List (ℕ × ℕ × Reply T) → Option (Entry T) → Entry T → Type 0
IsOfItsFront replies None x = ⊥
IsOfItsFront replies (Some f) x = (x.party ≡ f.party) × IsUnanswered replies f.party f.event x.event

abbrev pub IsArrivalOf : {T : Type 0} → List (ℕ × ℕ × Reply T) → Option (Entry T) → Entry T → Effect T → Type 0
IsArrivalOf replies f x Effect.Arrive = IsOfItsFront replies f x
IsArrivalOf replies f x _ = Unit {0}

-- each arrive is of the same call as the last front before it, and no other arrive stands between
abbrev pub FrontsArrive : {T : Type 0} → List (ℕ × ℕ × Reply T) → Option (Entry T) → List (Entry T) → Type 0
FrontsArrive replies f [] = Unit {0}
FrontsArrive replies f (x ∷ xs) = IsArrivalOf replies f x x.effect × FrontsArrive replies (displacing f x x.effect) xs

-- The reply x ends the call that party p is in, at a step of its own, the event `last`: the call's effects are those that the reply stands for; without effects the reply is
-- right at one of the call's moments.
pub record EndsCall {T : Type 0} (cap : Option ℕ) (events : List (Event T)) (skipped : List ℕ) (H : List (Entry T)) (replies : List (ℕ × ℕ × Reply T)) (last p : ℕ) (x : Reply T) : Type 0 where
  pub step : IsStepOf events skipped p last
  pub in_call : IsInCall events skipped replies p last
  pub tells : Tells in_call.call x (own_effects p in_call.first last H)
  pub right : own_effects p in_call.first last H ≡ [] → (Q : State T) × IsMoment cap events skipped H p in_call.first (last + 1) Q × Allows in_call.call x Q

-- a call without steps replies at the event at which it begins, and the reply is right there
pub record RepliesAtOnce {T : Type 0} (cap : Option ℕ) (events : List (Event T)) (skipped : List ℕ) (H : List (Entry T)) (last p : ℕ) (x : Reply T) : Type 0 where
  pub call : Call T
  pub begins : HasRun events skipped last (Begin p call)
  pub no_steps : has_steps cap call ≡ false
  pub right : IsRightAt (state_after cap H last) call x

-- the reply that is told of a party at an event ends the call that the party is in, or is that of a call without steps which begins there
abbrev pub IsAnswer : {T : Type 0} → Option ℕ → List (Event T) → List ℕ → List (Entry T) → List (ℕ × ℕ × Reply T) → ℕ × ℕ × Reply T → Type 0
IsAnswer cap events skipped H replies y = EndsCall cap events skipped H replies y.0 y.1 y.2 ⊎ RepliesAtOnce cap events skipped H y.0 y.1 y.2

-- One legal history in the order of its events, at most one effect an event, whose kinds are the effects that are told and whose last state has the items that are left. Each effect is
-- at a step of the call that its party is in, and an item arrives by the call that took the front; each reply ends a call with its effects, or is
-- right between the call's first and last step; each call that has not ended has a beginning of the effects of one of its replies. The replies and the skipped events
-- stand in the order of the events, too, one an event at most.
pub record HasHistory {T A : Type 0} (cap : Option ℕ) (events : List (Event T)) (r : Replay T A) : Type 0 where
  pub history : List (Entry T)
  pub in_order : AllPairs (λ x y. x.event < y.event) history
  pub legal : IsHistory cap (effects_in history)
  pub kinds : r.effects.items ≡ kinds_in history
  pub left : r.left.items ≡ (after cap (effects_in history)).items
  pub own : AllByRecursion (IsOwn cap events r.skipped.items history r.replies.items) history
  pub arrivals : FrontsArrive r.replies.items None history
  pub answers : AllByRecursion (IsAnswer cap events r.skipped.items history r.replies.items) r.replies.items
  pub unended : (p : ℕ) (c : IsInCall events r.skipped.items r.replies.items p (length events)) → IsBegun c.call (own_effects p c.first (length events) history)
  pub replies_in_order : AllPairs (λ y z. y.0 < z.0) r.replies.items
  pub skipped_in_order : AllPairs (λ m n. m < n) r.skipped.items

-- every replay that conforms has such a history
abbrev pub ConformingHasHistory : Type 0 → Type 0 → Type 0
ConformingHasHistory T A = (cap : Option ℕ) (parties : ℕ) (events : List (Event T)) (r : Replay T A) → Conforms cap parties events r → HasHistory cap events r
