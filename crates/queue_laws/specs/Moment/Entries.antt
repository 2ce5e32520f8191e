-- A history whose effects have an event and a party each, and how it settles: every displacement becomes one moment, within the call that displaces.
use Rattle.std.specs.Prelude.{◌≡◌, ℕ, ◌<◌, ◌≤◌, nat_lt, Bool, if◌then◌else◌, List, [], ◌∷◌, ◌++◌, Option, None, AllPairs}
use Rattle.std.specs.List.{AllByRecursion}
use Rattle.queue_steps.specs.{State.State, Effect.IsHistory, Effect.after, Replies.Allows, Replies.Tells}
use Rattle.queue_laws.specs.{Common.Vocabulary.Call, Common.Vocabulary.Reply, Common.Vocabulary.Effect, Moment.Moments.IsAtOnce, Moment.Moments.IsGlance, Moment.Moments.arrived, Moment.Moments.settled}

-- one effect of a run: the number of its event, the party whose step it was, and what it did
pub record Entry (T : Type 0) : Type 0 where
  pub event : ℕ
  pub party : ℕ
  pub effect : Effect T

-- the effects of those entries that pass
abbrev pub chosen : {T : Type 0} → (Entry T → Bool) → List (Entry T) → List (Effect T)
chosen f [] = []
chosen f (x ∷ xs) = if f x then x.effect ∷ chosen f xs else chosen f xs

abbrev pub effects_in : {T : Type 0} → List (Entry T) → List (Effect T)
effects_in [] = []
effects_in (x ∷ xs) = x.effect ∷ effects_in xs

-- the state before the event of this number
abbrev pub state_before : {T : Type 0} → Option ℕ → List (Entry T) → ℕ → State T
state_before cap H n = after cap (chosen (λ x. nat_lt x.event n) H)

-- the fronts, each with its arrive, all at the event n
abbrev pub front_first : {T : Type 0} → ℕ → Entry T → Effect T → List (Entry T) → List (Entry T)
front_first n x (Effect.Front old v) xs = record x { event = n } ∷ record x { event = n; effect = Effect.Arrive } ∷ xs
front_first n x _ xs = xs

abbrev pub fronts_at : {T : Type 0} → ℕ → List (Entry T) → List (Entry T)
fronts_at n [] = []
fronts_at n (x ∷ xs) = front_first n x x.effect (fronts_at n xs)

-- the entries that are no part of a displacement
abbrev pub other_first : {T : Type 0} → Entry T → Effect T → List (Entry T) → List (Entry T)
other_first x (Effect.Front old v) xs = xs
other_first x Effect.Arrive xs = xs
other_first x _ xs = x ∷ xs

abbrev pub other_entries : {T : Type 0} → List (Entry T) → List (Entry T)
other_entries [] = []
other_entries (x ∷ xs) = other_first x x.effect (other_entries xs)

-- Each arrive stands at its front, and what is displaced after a close is displaced just before it.
abbrev pub settle_first : {T : Type 0} → Entry T → Effect T → List (Entry T) → List (Entry T) → List (Entry T)
settle_first x (Effect.Front old v) xs done = x ∷ record x { effect = Effect.Arrive } ∷ done
settle_first x Effect.Arrive xs done = done
settle_first x Effect.Close xs done = fronts_at x.event xs ++ x ∷ other_entries xs
settle_first x _ xs done = x ∷ done

abbrev pub settle : {T : Type 0} → List (Entry T) → List (Entry T)
settle [] = []
settle (x ∷ xs) = settle_first x x.effect xs (settle xs)

-- whether an effect of this party at this event belongs to a call, which has taken a front at the event m, is the same as at the event n
abbrev pub SeesNoMove : {T : Type 0} → (ℕ → ℕ → Bool) → ℕ → List (Entry T) → Type 0
SeesNoMove {T} own n xs = AllByRecursion (λ x. (old v : T) → x.effect ≡ Effect.Front old v → own x.party n ≡ own x.party x.event) xs

-- no front of the call stands behind a close that is no part of it, nor one of another behind a close within it
abbrev pub KeepsFronts : {T : Type 0} → (ℕ → ℕ → Bool) → List (Entry T) → Type 0
KeepsFronts own [] = Unit {0}
KeepsFronts own (x ∷ xs) = (x.effect ≡ Effect.Close → SeesNoMove own x.event xs) × KeepsFronts own xs

-- the effects of a call: those of its party at its events
abbrev pub own_of : {T : Type 0} → (ℕ → ℕ → Bool) → List (Entry T) → List (Effect T)
own_of own H = chosen (λ x. own x.party x.event) H

-- The history S is what H settles into: its effects are what those of H settle into. Each displacement of S is one moment, so before each event nothing is on its way in. It leaves what H leaves, once all has arrived. A call's effects are the same in both, and stand within the same
-- events; of a call that has begun to displace S has all. What a call may be answered without effect before an event it may be answered there in S, but not a glance while an item is on its way in.
pub record SettlesInto {T : Type 0} (cap : Option ℕ) (H S : List (Entry T)) : Type 0 where
  pub legal : IsAtOnce cap (effects_in S)
  pub effects : effects_in S ≡ settled (effects_in H) []
  pub calm : (n : ℕ) → (state_before cap S n).coming ≡ None
  pub in_order : AllPairs (λ x y. x.event ≤ y.event) S
  pub left : after cap (effects_in S) ≡ arrived (after cap (effects_in H))
  pub own : (own : ℕ → ℕ → Bool) (c : Call T) (r : Reply T) → KeepsFronts own H → Tells c r (own_of own H) → own_of own S ≡ own_of own H
  pub begun : (own : ℕ → ℕ → Bool) (c : Call T) (r : Reply T) (more : List (Effect T)) → KeepsFronts own H → Tells c r (own_of own H ++ more) → (rest : List (Effect T)) × Tells c r (own_of own S ++ rest)
  pub right : (n : ℕ) (c : Call T) (r : Reply T) → Allows c r (state_before cap H n) → (IsGlance c → (state_before cap H n).coming ≡ None) → Allows c r (state_before cap S n)

abbrev pub HistoriesSettle : Type 0 → Type 0
HistoriesSettle T = (cap : Option ℕ) (H : List (Entry T)) → IsHistory cap (effects_in H) → AllPairs (λ x y. x.event < y.event) H → SettlesInto cap H (settle H)
