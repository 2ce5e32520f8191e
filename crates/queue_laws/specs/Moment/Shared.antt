-- What the parties of a queue know of its one history, once that has settled.
use Rattle.std.specs.Prelude.{◌≡◌, ◌⊎◌, ℕ, ◌+◌, ◌<◌, ◌≤◌, ◌==◌, ◌&&◌, ◌||◌, nat_lt, nat_le, Bool, true, false, List, [], ◌∷◌, ◌++◌, length, Option, Some}
use Rattle.std.specs.List.{AllByRecursion}
use mathlib.Core.List.{IsPrefix}
use Rattle.queue_laws.specs.{Common.Vocabulary.Call, Common.Vocabulary.Reply, Common.Vocabulary.Effect, Moment.Moments.IsAtOnce, Moment.Moments.IsGlance, Moment.Moments.arrived}
use Rattle.queue_laws.specs.Moment.Entries.{Entry, effects_in, state_before, settle, own_of}
use Rattle.queue_steps.specs.{Effect.IsHistory, Effect.after, Replies.Allows, Replies.Tells, Parties.View, Parties.Between, Parties.SharedCall}

-- the effects with their places: each is at the event of its place, and its own
abbrev pub numbered : {T : Type 0} → ℕ → List (Effect T) → List (Entry T)
numbered n [] = []
numbered n (e ∷ es) = record { event = n; party = n; effect = e } ∷ numbered (n + 1) es

-- what the history settles into
abbrev pub settled_history : {T : Type 0} → List (Effect T) → List (Entry T)
settled_history h = settle (numbered 0 h)

abbrev pub is_one_of : List ℕ → ℕ → Bool
is_one_of [] p = false
is_one_of (q ∷ ps) p = (q == p) || is_one_of ps p

-- the effects of these places, of those between two places
abbrev pub is_own : List ℕ → ℕ → ℕ → ℕ → ℕ → Bool
is_own places from upto p n = is_one_of places p && (nat_le from n && nat_lt n upto)

-- the call of these entries has these effects in S, all of them in a row with nothing between, each at an event from `from` on and before `upto`
pub record StandsTogether {T : Type 0} (S : List (Entry T)) (is_its : ℕ → ℕ → Bool) (from upto : ℕ) (es : List (Effect T)) : Type 0 where
  pub before : List (Entry T)
  pub own : List (Entry T)
  pub behind : List (Entry T)
  pub all : S ≡ before ++ (own ++ behind)
  pub effects : effects_in own ≡ es
  pub whole : own_of is_its S ≡ es
  pub its : AllByRecursion (λ x. is_its x.party x.event ≡ true) own
  pub inside : AllByRecursion (λ x. (from ≤ x.event) × (x.event < upto)) own

-- The call c that is answered r, which takes its party's view from v to w, in what the history h settles into: the effects that the reply stands for are those of the call's places, and stand together between
-- what was seen before and what was seen then; a reply without effect was allowed between these; but a glance may have been right at the middle of a displacement.
pub record CallsAtOnce {T : Type 0} (cap : Option ℕ) (h : List (Effect T)) (v w : View T) (c : Call T) (r : Reply T) : Type 0 where
  pub places : List ℕ
  pub mine : w.mine ≡ v.mine ++ places
  pub effects : List (Effect T)
  pub own : own_of (is_own places (length v.seen) (length w.seen)) (settled_history h) ≡ effects
  pub together : StandsTogether (settled_history h) (is_own places (length v.seen) (length w.seen)) (length v.seen) (length w.seen) effects
  pub tells : Tells c r effects
  pub right : effects ≡ [] → ((n : ℕ) × (length v.seen ≤ n) × (n ≤ length w.seen) × Allows c r (state_before cap (settled_history h) n))
      ⊎ (IsGlance c × Between cap v.seen w.seen (λ Q. Allows c r Q × ((x : T) × (Q.coming ≡ Some x))))

-- every history settles into one whose displacements are moments, which ends as the history does once all has arrived, and in which each shared call of a party that has seen a beginning of it stands
abbrev pub SharedCallsAtOnce : Type 0 → Type 0
SharedCallsAtOnce T = (cap : Option ℕ) (h : List (Effect T)) → IsHistory cap h
    → IsAtOnce cap (effects_in (settled_history h)) × (after cap (effects_in (settled_history h)) ≡ arrived (after cap h)) × ((v w : View T) (c : Call T) (r : Reply T) → IsPrefix w.seen h → SharedCall cap v w c r → CallsAtOnce cap h v w c r)
